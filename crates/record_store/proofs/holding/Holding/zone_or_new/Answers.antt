use Rattle.std.proofs.Common.{◌≡◌, List, Contains, sym, ◌∙◌, ap, subst}
use Rattle.std.specs.Arc.{arc_value}
use Rattle.zone_chains.specs.Zone.{OneZone}
use Rattle.record_store.specs.Holding.{held_in}
use Rattle.record_store.specs.Putting.{IsZoneFor}
use Rattle.record_store.proofs.ZoneForLemmas.{found_for, none_for}
use Rattle.std.proofs.lemmas.Result.{IfOk-weaker}
use Rattle.record_store.proofs.holding.Holding.zone_or_new.Goals as goal

pub returns-in-Some : goal.returns-in-Some
returns-in-Some c =
    let goings = c.self.inside.goings in
    let zones = arc_value c.self.inside.zones in
    let has = subst (λ (l : List OneZone). Contains l (arc_value c.in-Some.zone.now)) c.deref.ensures c.in-Some.ensures.zone.0 in
    let order = rw c.deref.ensures at c.in-Some.ensures.order in
    let its = found_for goings (arc_value c.self.inside.sets) zones c.self.invariant c.args.item.now order (arc_value c.in-Some.zone.now) has (c.in-Some.ensures.zone.1 ∙ c.zone_of.ensures) in
    IfOk-weaker c.try_clone.result _ (λ zone. IsZoneFor c.args.self.now c.args.item.now (arc_value zone))
    (λ zone same. subst (λ held. IsZoneFor held c.args.item.now (arc_value zone)) c.self.view_is (subst (λ (z : OneZone). IsZoneFor (held_in goings zones) c.args.item.now z) (sym same) its)) c.try_clone.ensures

pub returns-in_ok-new-in-None : goal.returns-in_ok-new-in-None
returns-in_ok-new-in-None c =
    let goings = c.self.inside.goings in
    let zones = arc_value c.self.inside.zones in
    let zone = arc_value c.in_ok-new-in-None.field-0 in
    let made : zone ≡ c.of.result = c.in_ok-new-in-None.ensures.ok in
    let its = none_for goings (arc_value c.self.inside.sets) zones c.self.invariant c.args.item.now zone (ap (λ (z : OneZone). z.apex) made ∙ (c.of.ensures.apex ∙ c.zone_of-in-None.ensures)) (ap (λ (z : OneZone). z.chains) made ∙ c.of.ensures.chains)
    (λ each has same. c.in-None.ensures.zone each (subst (λ (l : List OneZone). Contains l each) (sym c.deref.ensures) has) (same ∙ sym c.zone_of.ensures)) in
    subst (λ held. IsZoneFor held c.args.item.now zone) c.self.view_is its
