use Rattle.std.proofs.Common.{sym, ap, subst}
use Rattle.std.specs.Arc.{arc_value}
use Rattle.std.proofs.lemmas.Result.{IfOk-weaker}
use Rattle.cache_meaning.specs.Held.{chain_of}
use Rattle.zone_chains.specs.Zone.{OneZone}
use Rattle.record_store.specs.Dropping.{IsZoneLeft}
use Rattle.record_store.proofs.DroppingLemmas.{zone_stays, zone_less}
use Rattle.record_store.proofs.dropping.zone_without.Goals as goal

pub returns-in-Set : goal.returns-in-Set
returns-in-Set c =
    let zone = arc_value c.args.zone.now in
    IfOk-weaker c.try_clone.result _ (λ left. IsZoneLeft c.args.gone.now zone (arc_value left)) (λ left is. zone_stays c.args.gone.now zone c.requires.whole c.requires.used (ap chain_of c.in-Set.is) (arc_value left) is) c.try_clone.ensures

pub returns-in_ok-new-in_default : goal.returns-in_ok-new-in_default
returns-in_ok-new-in_default c =
    let gone = c.args.gone.now in
    let left = c.in_ok-without_empty-in_default.field-0 in
    subst (IsZoneLeft gone (arc_value c.args.zone.now)) (sym c.in_ok-new-in_default.ensures.ok)
    (subst (λ (z : OneZone). IsZoneLeft gone z left) c.deref.ensures
    (zone_less gone c.deref.result.now c.in_ok-without-in_default.without left c.in_ok-without-in_default.ensures.apex c.in_ok-without-in_default.ensures.chains c.in_ok-without-in_default.ensures.records c.in_ok-without-in_default.ensures.whole
    c.in_ok-without_empty-in_default.ensures.apex c.in_ok-without_empty-in_default.ensures.chains c.in_ok-without_empty-in_default.ensures.whole))
