use Rattle.std.proofs.Common.{◌≡◌, List, None, Some, sym, ◌∙◌, subst}
use Rattle.std.specs.Arc.{arc_value}
use Rattle.cache_meaning.specs.Held.{Held}
use Rattle.cache_meaning.specs.Zones.{candidates, zone_for}
use Rattle.held_laws.specs.KeyOrder.{in_key_order}
use Rattle.zone_chains.specs.Zone.{OneZone}
use Rattle.record_store.specs.LookUp.{first_apex, IsFirstZone, IsZoneIn}
use Rattle.record_store.proofs.LookUpLemmas.{zone_for_held, zone_is_found}
use Rattle.record_store.proofs.holding.Holding.zone_for.Goals as goal

pub returns-in_err-zone_for : goal.returns-in_err-zone_for
returns-in_err-zone_for c =
    let held = c.self.inside in
    let none = subst (λ (zones : List OneZone). first_apex zones (candidates c.args.name.now c.args.qtype) ≡ None) c.deref-zones.ensures c.in_err-zone_for.ensures in
    rw c.from_residual.ensures
    (subst (λ (h : Held). zone_for (in_key_order h) c.args.name.now c.args.qtype ≡ None) c.self.view_is
    (sym (zone_for_held held.goings (arc_value held.sets) (arc_value held.zones) c.self.invariant c.args.name.now c.args.qtype) ∙ none))

pub returns : goal.returns
returns c =
    let held = c.self.inside in
    let zone = arc_value c.in_ok-zone_for.field-0.now in
    let is = subst (λ (zones : List OneZone). IsFirstZone zones (candidates c.args.name.now c.args.qtype) zone) c.deref-zones.ensures c.in_ok-zone_for.ensures in
    subst (λ (z : OneZone). (zone_for (in_key_order c.args.self.now) c.args.name.now c.args.qtype ≡ Some z.apex) × IsZoneIn (in_key_order c.args.self.now) z) (sym c.deref-zone.ensures)
    (subst (λ (h : Held). (zone_for (in_key_order h) c.args.name.now c.args.qtype ≡ Some zone.apex) × IsZoneIn (in_key_order h) zone) c.self.view_is
    (zone_is_found held.goings (arc_value held.sets) (arc_value held.zones) c.self.invariant c.args.name.now c.args.qtype zone is))
