use Rattle.std.proofs.Common.{◌≡◌, ◌⊎◌, ◌↔◌, inl, inr, List, Contains, sym, ◌∙◌, ap, subst}
use Rattle.std.specs.Arc.{arc_value}
use Rattle.std.proofs.lemmas.Result.{IfOk-weaker}
use Rattle.ordered_list.specs.Order.{IsInOrder}
use Rattle.zone_chains.specs.Zone.{OneZone}
use Rattle.record_store.specs.Holding.{IsWithApex}
use Rattle.record_store.specs.Ranks.{apex_cmp}
use Rattle.record_store.proofs.ZoneLemmas.{zones_same}
use Rattle.record_store.proofs.zones.with_apex.Goals as goal

pub returns-in-Some-clause-zones : goal.returns-in-Some-clause-zones
returns-in-Some-clause-zones c =
    let zones = arc_value c.args.zones.now in
    let zone = arc_value c.in-Some.field-0.now in
    let has = subst (λ (l : List OneZone). Contains l zone) c.deref.ensures c.in-Some.ensures.zone.0 in
    let order = subst (IsInOrder apex_cmp) c.deref.ensures c.in-Some.ensures.order in
    IfOk-weaker c.try_clone.result _ (λ made. IsWithApex c.args.apex.now zones (arc_value made))
    (λ made same. record { zone = zone; at = c.in-Some.ensures.zone.1; its = inl has; members = zones_same zone zones (arc_value made) order has same }) c.try_clone.ensures

pub returns-in_ok-zone-in-None-clause-zones : goal.returns-in_ok-zone-in-None-clause-zones
returns-in_ok-zone-in-None-clause-zones c =
    let zones = arc_value c.args.zones.now in
    let zone = arc_value c.in_ok-zone-in-None.zone in
    let is = c.in_ok-zone-in-None.ensures.ok in
    IfOk-weaker c.with_zone.result _ (λ made. IsWithApex c.args.apex.now zones (arc_value made))
    (λ made members. record {
      zone = zone;
      at = ap (λ (z : OneZone). z.apex) is ∙ (c.of.ensures.apex ∙ c.copy.ensures);
      its = inr (
        ap (λ (z : OneZone). z.chains) is ∙ c.of.ensures.chains,
        λ each has same. c.in-None.ensures.zone each (subst (λ (l : List OneZone). Contains l each) (sym c.deref.ensures) has) same,
      );
      members = subst (λ (l : List OneZone). (each : OneZone) → Contains (arc_value made) each ↔ ((each ≡ zone) ⊎ (Contains l each × (each.apex ≡ zone.apex → ⊥)))) c.deref-in-None.ensures members;
    }) c.with_zone.ensures.zones
