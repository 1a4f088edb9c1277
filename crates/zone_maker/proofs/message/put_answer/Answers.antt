use Rattle.std.proofs.Common.{◌-◌, ◌++◌, ◌∙◌, ap}
use Rattle.zone_maker.specs.Messages.{answer_in}
use Rattle.zone_maker.proofs.MessageLemmas.{answer_is}
use Rattle.zone_maker.proofs.message.put_answer.Goals as goal

pub returns : goal.returns
returns c =
    c.in_ok-put_answer_in.ensures
    ∙ ap (λ kind. c.args.out.now ++ answer_in kind c.args.seed (c.args.k - 1)) c.kind_at.ensures
    ∙ ap (λ answer. c.args.out.now ++ answer) (answer_is c.args.seed c.args.k c.if-k-eq0.false)
