use Rattle.std.proofs.Common.{◌∙◌}
use Rattle.denial_records.proofs.KeptLemmas.{laid, MakesNsec, makes_nsec}
use Rattle.denial_records.proofs.kept_nsec.KeptNsec.of.Goals as goal
use Rattle.denial_records.proofs.kept_nsec.KeptNsec.of.Goals.{After-of}

made : (c : After-of) → MakesNsec c.of.result c.args.nsec.now
made c =
    makes_nsec c.of.result c.args.nsec.now c.wire.result.now c.wire-2.result.now c.wire-3.result.now c.octets.result.now c.as_slice.result.now
    (c.of.ensures ∙ laid _ _ _ _ (laid _ _ _ _ (laid _ _ _ _ (laid _ _ _ _ (laid _ _ _ _ (laid _ _ _ _ c.empty-pack.ensures c.in_ok-push.ensures.ok) c.in_ok-push-2.ensures.ok) c.in_ok-push-3.ensures.ok) c.in_ok-push-4.ensures.ok) c.in_ok-push-5.ensures.ok) c.in_ok-push_all.ensures)
    c.wire.ensures.spelled c.wire.ensures.name c.wire-2.ensures.spelled c.wire-2.ensures.name c.wire-3.ensures.spelled c.wire-3.ensures.name c.octets.ensures.types c.octets.ensures.kept c.as_slice.ensures

pub invariant_of-result : goal.invariant_of-result
invariant_of-result c = (made (goal.at.invariant_of-result c).After-of).holds

pub returns : goal.returns
returns c = (made (goal.at.returns c).After-of).is
