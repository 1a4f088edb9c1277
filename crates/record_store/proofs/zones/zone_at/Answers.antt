use Rattle.std.proofs.Common.{◌≡◌, ◌<◌, length, sym, ◌∙◌, ap, arith, rules}
use Rattle.std.specs.List.{prefix_len}
use Rattle.std.specs.Ordering.{is_lt}
use Rattle.std.specs.Arc.{arc_value}
use Rattle.dname.specs.Name.{canonical_cmp}
use Rattle.dname.proofs.SameLemmas.{name_equal}
use Rattle.zone_chains.specs.Zone.{OneZone}
use Rattle.record_store.proofs.SearchLemmas.{names_differ, read_alike, names_below_first, none_past, first_has, zones_rise}
use Rattle.record_store.proofs.zones.zone_at.Goals as goal
use Rattle.record_store.proofs.zones.zone_at.Goals.{else-place-len-via-then-place-len+else-eq, else-place-len-via-else-place-len}

pub returns-then-eq-clause-zone : goal.returns-then-eq-clause-zone
returns-then-eq-clause-zone c =
    let zones = c.args.zones.now in
    let within : c.find-place.result < length zones = omega arith in
    let one = read_alike zones c.find-place.result (arc_value c.get-then-eq.result.now) (arc_value c.get.result.now) within c.get-then-eq.ensures c.get.ensures in
    let its = name_equal c.apex.result.now c.args.apex.now (sym c.if-eq.ensures) in (
      (c.find-place.result, within, sym c.get-then-eq.ensures),
      ap (λ (zone : OneZone). zone.apex) (one ∙ sym c.deref.ensures) ∙ (sym c.apex.ensures.apex ∙ its),
    )

pub returns-else-place-len-clause-zone : goal.returns-else-place-len-clause-zone
returns-else-place-len-clause-zone c zone has same =
    let zones = c.args.zones.now in
    let apex = c.args.apex.now in
    let place = c.find-place.result in
    let rises = zones_rise zones c.len.ensures.in_order in
    let found : place ≡ prefix_len (λ (each : OneZone). is_lt (canonical_cmp each.apex apex)) zones =
    c.find-place.ensures.exact (λ (each : OneZone). is_lt (canonical_cmp each.apex apex)) (λ x r says. search rules) (names_below_first (λ (each : OneZone). each.apex) apex zones rises) in
    elim c.else-place-len.branch [
      | else-place-len-via-then-place-len+else-eq w ↦ names_differ w.apex.result.now apex w.if-eq.ensures (w.apex.ensures.apex ∙ (ap (λ (each : OneZone). each.apex) w.deref.ensures ∙ first_has (λ (each : OneZone). each.apex) apex zones place found rises (omega arith) (arc_value w.get.result.now) w.get.ensures zone has same))
      | else-place-len-via-else-place-len w ↦ none_past (λ (each : OneZone). each.apex) apex zones place found (omega arith) zone has same
    ]
