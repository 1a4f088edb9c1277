use Rattle.std.proofs.Common.{◌∙◌}
use Rattle.denial_records.proofs.KeptLemmas.{laid, MakesNsec3, makes_nsec3}
use Rattle.denial_records.proofs.kept_nsec3.KeptNsec3.of.Goals as goal
use Rattle.denial_records.proofs.kept_nsec3.KeptNsec3.of.Goals.{After-of}

made : (c : After-of) → MakesNsec3 c.of.result c.args.nsec3.now
made c =
    makes_nsec3 c.of.result c.args.nsec3.now c.wire.result.now c.as_slice.result.now c.octets.result.now c.as_slice-2.result.now
    (c.of.ensures ∙ laid _ _ _ _ (laid _ _ _ _ (laid _ _ _ _ (laid _ _ _ _ (laid _ _ _ _ c.empty-pack.ensures c.in_ok-push.ensures.ok) c.in_ok-push-2.ensures.ok) c.in_ok-push-3.ensures.ok) c.in_ok-push-4.ensures.ok) c.in_ok-push_all.ensures)
    c.wire.ensures.spelled c.wire.ensures.name c.as_slice.ensures c.octets.ensures.types c.octets.ensures.kept c.as_slice-2.ensures

pub invariant_of-result : goal.invariant_of-result
invariant_of-result c = (made (goal.at.invariant_of-result c).After-of).holds

pub returns : goal.returns
returns c = (made (goal.at.returns c).After-of).is
