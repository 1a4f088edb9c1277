use Rattle.std.proofs.Common.{sym, ◌∙◌}
use Rattle.denial_records.specs.Proof.{denied_by}
use Rattle.resolver.specs.Lent.{denials_in}
use Rattle.resolver.specs.WalkReply.{same_denial}
use Rattle.resolver.proofs.WritingLemmas.{some_by}
use Rattle.resolver.proofs.once.is_among.Goals as goal

pub returns-then-uses : goal.returns-then-uses
returns-then-uses c =
    sym (some_by c.args.links.now c.loop-way.way-index c.way-item.result c.loop-way-test.true c.way-item.is denials_in (λ each. same_denial each (denied_by c.args.denial.now))
    (sym c.uses.ensures ∙ c.if-uses.true))
