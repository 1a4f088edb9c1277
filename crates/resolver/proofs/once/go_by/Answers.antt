use Rattle.std.proofs.Common.{sym, ◌∙◌}
use Rattle.resolver.specs.Lent.{dnames_in}
use Rattle.resolver.specs.WalkReply.{same_set}
use Rattle.resolver.proofs.WritingLemmas.{some_by}
use Rattle.resolver.proofs.once.go_by.Goals as goal

pub returns-then-goes_by : goal.returns-then-goes_by
returns-then-goes_by c =
    sym (some_by c.args.links.now c.loop-way.way-index c.way-item.result c.loop-way-test.true c.way-item.is dnames_in (λ each. same_set each c.args.set.now)
    (sym c.goes_by.ensures ∙ c.if-goes_by.true))
