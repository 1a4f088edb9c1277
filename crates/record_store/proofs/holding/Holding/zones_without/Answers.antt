use Rattle.std.proofs.Common.{◌≡◌, List, drop, Contains, sym, ◌∙◌, ap, subst}
use Rattle.std.specs.Arc.{arc_value}
use Rattle.std.proofs.lemmas.Result.{IfOk-weaker}
use Rattle.denial_records.specs.declared.record.Record.{Record}
use Rattle.cache_meaning.specs.Held.{Held}
use Rattle.held_laws.specs.HeldLaws.{IsReordered}
use Rattle.ordered_list.specs.Order.{IsInOrder}
use Rattle.zone_chains.specs.Zone.{OneZone}
use Rattle.record_store.specs.Dropping.{AreZonesLeft}
use Rattle.record_store.specs.Holding.{AreBut, IsTied, held_in, held_rest}
use Rattle.record_store.specs.Ranks.{apex_cmp}
use Rattle.record_store.proofs.DroppingLemmas.{has_zone, apart_first, still_tied, same_left, both_ok}
use Rattle.record_store.proofs.holding.Holding.zones_without.Goals as goal

pub returns-in_default-clause-tied : goal.returns-in_default-clause-tied
returns-in_default-clause-tied c =
    let gone = c.args.gone.now in
    let whole : c.args.self.now.records ≡ c.self.inside.goings = sym (ap (λ (h : Held). h.records) c.self.view_is) in
    let there = subst (λ (l : List Record). Contains l gone) whole c.requires.there in
    let but = subst (λ (l : List Record). AreBut gone l (drop 1 c.args.self.now.records)) whole c.requires.left in
    let none = rw c.in_default.is at c.zone_at.ensures.zone in
    absurd (has_zone gone c.self.inside.goings (arc_value c.self.inside.sets) (arc_value c.self.inside.zones) c.self.invariant (drop 1 c.args.self.now.records) but there
    (λ zone listed is. none zone (subst (λ (l : List OneZone). Contains l zone) (sym c.deref.ensures) listed) (is ∙ sym c.zone_of.ensures)))

pub returns-in_default-clause-same : goal.returns-in_default-clause-same
returns-in_default-clause-same c =
    let gone = c.args.gone.now in
    let whole : c.args.self.now.records ≡ c.self.inside.goings = sym (ap (λ (h : Held). h.records) c.self.view_is) in
    let there = subst (λ (l : List Record). Contains l gone) whole c.requires.there in
    let but = subst (λ (l : List Record). AreBut gone l (drop 1 c.args.self.now.records)) whole c.requires.left in
    let none = rw c.in_default.is at c.zone_at.ensures.zone in
    absurd (has_zone gone c.self.inside.goings (arc_value c.self.inside.sets) (arc_value c.self.inside.zones) c.self.invariant (drop 1 c.args.self.now.records) but there
    (λ zone listed is. none zone (subst (λ (l : List OneZone). Contains l zone) (sym c.deref.ensures) listed) (is ∙ sym c.zone_of.ensures)))

pub zone_without-requires-clause-whole : goal.zone_without-requires-clause-whole
zone_without-requires-clause-whole c =
    let zone = arc_value c.in-Some.zone.now in
    c.self.invariant.whole zone (subst (λ (l : List OneZone). Contains l zone) c.deref.ensures c.in-Some.ensures.zone.0)

pub returns-clause-tied : goal.returns-clause-tied
returns-clause-tied c =
    let gone = c.args.gone.now in
    let zones = arc_value c.self.inside.zones in
    let zone = arc_value c.in-Some.zone.now in
    let rest = arc_value c.in_ok-zone_without.field-0 in
    let whole : c.args.self.now.records ≡ c.self.inside.goings = sym (ap (λ (h : Held). h.records) c.self.view_is) in
    let but = subst (λ (l : List Record). AreBut gone l (drop 1 c.args.self.now.records)) whole c.requires.left in
    let listed = subst (λ (l : List OneZone). Contains l zone) c.deref.ensures c.in-Some.ensures.zone.0 in
    IfOk-weaker c.zones_left.result _ (λ made. IsTied (drop 1 c.args.self.now.records) c.args.sets.now (arc_value made)) (λ made are.
    still_tied gone c.self.inside.goings (arc_value c.self.inside.sets) zones c.self.invariant (drop 1 c.args.self.now.records) but zone rest listed (c.in-Some.ensures.zone.1 ∙ c.zone_of.ensures) c.in_ok-zone_without.ensures c.args.sets.now (apart_first c.self.inside.goings (drop 1 c.args.self.now.records) c.self.invariant.apart (ap (λ (l : List Record). drop 1 l) whole)) c.requires.sets (arc_value made)
    (subst (λ (l : List OneZone). AreZonesLeft c.args.sets.now rest l (arc_value made)) c.deref-2.ensures are)) c.zones_left.ensures.made

pub returns-clause-same : goal.returns-clause-same
returns-clause-same c =
    let gone = c.args.gone.now in
    let zones = arc_value c.self.inside.zones in
    let zone = arc_value c.in-Some.zone.now in
    let rest = arc_value c.in_ok-zone_without.field-0 in
    let whole : c.args.self.now.records ≡ c.self.inside.goings = sym (ap (λ (h : Held). h.records) c.self.view_is) in
    let but = subst (λ (l : List Record). AreBut gone l (drop 1 c.args.self.now.records)) whole c.requires.left in
    let listed = subst (λ (l : List OneZone). Contains l zone) c.deref.ensures c.in-Some.ensures.zone.0 in
    let order = subst (IsInOrder apex_cmp) c.deref.ensures c.zone_at.ensures.order in
    both_ok c.zones_left.result _ _ (λ made. IsReordered (held_rest (drop 1 c.args.self.now.records) c.args.self.now) (held_in (drop 1 c.args.self.now.records) (arc_value made))) (λ made are order'.
    subst (λ (h : Held). IsReordered (held_rest (drop 1 c.args.self.now.records) h) (held_in (drop 1 c.args.self.now.records) (arc_value made))) c.self.view_is
    (same_left gone c.self.inside.goings (arc_value c.self.inside.sets) zones c.self.invariant (drop 1 c.args.self.now.records) but zone rest listed (c.in-Some.ensures.zone.1 ∙ c.zone_of.ensures) c.in_ok-zone_without.ensures c.args.sets.now (apart_first c.self.inside.goings (drop 1 c.args.self.now.records) c.self.invariant.apart (ap (λ (l : List Record). drop 1 l) whole)) c.requires.sets (arc_value made) order order'
    (subst (λ (l : List OneZone). AreZonesLeft c.args.sets.now rest l (arc_value made)) c.deref-2.ensures are))) c.zones_left.ensures.made c.zones_left.ensures.in_order
