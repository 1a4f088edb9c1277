use Rattle.std.proofs.Common.{◌≢◌, length, sym, ◌∙◌, ap, arith}
use Rattle.std.proofs.lemmas.Bool.Decides.{not_from_Decides}
use Rattle.dname.specs.Name.{wire_of}
use Rattle.dname.proofs.WireLemmas.{same_wire}
use Rattle.dname.proofs.PieceLemmas.{eq_decides}
use Rattle.dname.proofs.MeetLemmas.{meets_none, meets_first, meets_second, meets_both, meets_end, meets_common}
use Rattle.dname.proofs.labels.meet.Goals as goal

pub loop-name-init : goal.loop-name-init
loop-name-init c = meets_none c.args.name c.args.other

pub loop-name-preserved-then-size-other_size : goal.loop-name-preserved-then-size-other_size
loop-name-preserved-then-size-other_size c =
    let decides = eq_decides c.wire-then-size-other_size.result.now c.wire-then-size-other_size-2.result.now _ c.octets_eq.ensures in
    let apart : c.loop-name.name ≢ c.loop-name.other =
    λ same. not_from_Decides _ decides c.if-octets_eq.false (c.wire-then-size-other_size.ensures.spelled ∙ ap wire_of same ∙ sym c.wire-then-size-other_size-2.ensures.spelled) in
    meets_both _ _ _ _ _ _ _ _ _ _ c.loop-name.invariant c.wire.ensures.name c.wire-in-loop-name.ensures.name c.take_first-label.ensures c.take_first-another.ensures
    (sym (ap length c.wire.ensures.spelled) ∙ c.if-size-other_size.true ∙ ap length c.wire-in-loop-name.ensures.spelled) apart

pub loop-name-preserved-then-size-other_size-2 : goal.loop-name-preserved-then-size-other_size-2
loop-name-preserved-then-size-other_size-2 c =
    meets_first _ _ _ _ _ _ _ _ c.loop-name.invariant c.wire.ensures.name c.take_first-label-then-size-other_size-2.ensures
    (omega (arith, ap length c.wire.ensures.spelled, ap length c.wire-in-loop-name.ensures.spelled))

pub loop-name-preserved : goal.loop-name-preserved
loop-name-preserved c =
    meets_second _ _ _ _ _ _ _ _ c.loop-name.invariant c.wire-in-loop-name.ensures.name c.take_first-another-else-size-other_size-2.ensures
    (omega (arith, ap length c.wire.ensures.spelled, ap length c.wire-in-loop-name.ensures.spelled, c.if-size-other_size.false))

pub returns-clause-common : goal.returns-clause-common
returns-clause-common c =
    let decides = eq_decides c.wire-then-size-other_size.result.now c.wire-then-size-other_size-2.result.now _ c.octets_eq.ensures in
    let same = same_wire _ _ c.wire.ensures.name c.wire-in-loop-name.ensures.name
    (sym c.wire-then-size-other_size.ensures.spelled ∙ decides.0 c.if-octets_eq.true ∙ c.wire-then-size-other_size-2.ensures.spelled) in
    meets_common _ _ _ _ _ _ c.loop-name.invariant same

pub returns-clause-order : goal.returns-clause-order
returns-clause-order c =
    let decides = eq_decides c.wire-then-size-other_size.result.now c.wire-then-size-other_size-2.result.now _ c.octets_eq.ensures in
    let same = same_wire _ _ c.wire.ensures.name c.wire-in-loop-name.ensures.name
    (sym c.wire-then-size-other_size.ensures.spelled ∙ decides.0 c.if-octets_eq.true ∙ c.wire-then-size-other_size-2.ensures.spelled) in
    meets_end _ _ _ _ _ _ c.loop-name.invariant same
