use Rattle.std.proofs.Common.{◌∙◌}
use Rattle.denial_records.proofs.KeptLemmas.{laid, MakesSet, makes_set}
use Rattle.denial_records.proofs.kept_set.KeptSet.of.Goals as goal
use Rattle.denial_records.proofs.kept_set.KeptSet.of.Goals.{After-of}

made : (c : After-of) → MakesSet c.of.result c.args.set.now
made c =
    makes_set c.of.result c.args.set.now c.wire.result.now c.wire-2.result.now c.octets.result.now
    (c.of.ensures ∙ laid _ _ _ _ (laid _ _ _ _ (laid _ _ _ _ (laid _ _ _ _ c.empty-pack.ensures c.in_ok-push.ensures.ok) c.in_ok-push-2.ensures.ok) c.in_ok-push-3.ensures.ok) c.in_ok-push_all.ensures)
    c.wire.ensures.spelled c.wire.ensures.name c.wire-2.ensures.spelled c.wire-2.ensures.name c.octets.ensures.packed (c.octets.ensures.pieces ∙ c.in_ok-items.ensures)

pub invariant_of-result : goal.invariant_of-result
invariant_of-result c = (made (goal.at.invariant_of-result c).After-of).holds

pub returns : goal.returns
returns c = (made (goal.at.returns c).After-of).is
