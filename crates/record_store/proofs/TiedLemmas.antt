-- A record comes: the parts belong together, and are the held state with it.
use Rattle.std.proofs.Common.{◌≡◌, ◌⊎◌, ◌↔◌, inl, inr, ⊎_elim, ◌<◌, ◌≤◌, Bool, true, false, true≢false, List, length, filter, Contains, All, Option, Some, None, refl, sym, ◌∙◌, ap, subst}
use Rattle.std.specs.List.{AllPairs, list_any}
use Rattle.std.proofs.lemmas.Bool.{and_parts, false_from_ne_true}
use Rattle.dname.specs.Name.{Label}
use Rattle.dname.specs.Tests.{same_name}
use Rattle.denial_records.specs.declared.record.Record.{Record}
use Rattle.denial_records.specs.declared.record.Record.TheVariants.{Set, Nsec, Nsec3}
use Rattle.cache_meaning.specs.Held.{Held, ZoneChain, chain_of, zone_of, is_of_chain, displaces, held_with}
use Rattle.held_laws.specs.HeldLaws.{NoneDisplaces, IsReordered}
use Rattle.held_laws.proofs.KeyOrderLemmas.{in_zone}
use Rattle.held_laws.proofs.ListLemmas.{found, is_found}
use Rattle.dname.proofs.SameLemmas.{name_equal, name_itself}
use Rattle.cache_meaning.proofs.ChainLemmas.{of_chain}
use Rattle.held_laws.proofs.ReorderLemmas.{reordered}
use Rattle.ordered_list.specs.Order.{IsInOrder}
use Rattle.zone_chains.specs.Zone.{OneChain, OneZone, chains_in, IsOneZone, IsDenialOf, chains_with, third_for, is_of}
use Rattle.record_store.specs.Holding.{chains_of_zones, held_in, IsZoneOf, IsTied}
use Rattle.record_store.specs.Putting.{chains_for}
use Rattle.record_store.specs.Ranks.{apex_cmp}
use Rattle.record_store.proofs.PutLemmas.{Has, Differ, chain_zone, held_has, held_chains_here, held_chains_elsewhere, third_zone}
use Rattle.record_store.proofs.ZoneChainLemmas.{none_of_zones, one_of_zones}
use Rattle.record_store.proofs.ZoneForLemmas.{denial_zone}

-- what a record displaces is of its zone
displaced_zone : (new old : Record) → displaces new old ≡ true → zone_of new ≡ zone_of old
displaced_zone (Set new) (Set old) is = name_equal new.zone old.zone (and_parts _ _ is).0
displaced_zone (Set new) (Nsec old) is = absurd (true≢false (sym is))
displaced_zone (Set new) (Nsec3 old) is = absurd (true≢false (sym is))
displaced_zone (Nsec new) (Set old) is = absurd (true≢false (sym is))
displaced_zone (Nsec new) (Nsec old) is = name_equal new.zone old.zone (and_parts _ _ is).0
displaced_zone (Nsec new) (Nsec3 old) is = absurd (true≢false (sym is))
displaced_zone (Nsec3 new) (Set old) is = absurd (true≢false (sym is))
displaced_zone (Nsec3 new) (Nsec old) is = absurd (true≢false (sym is))
displaced_zone (Nsec3 new) (Nsec3 old) is = name_equal new.zone old.zone (and_parts _ _ is).0

-- what the parts are with the record
pub record IsPut (goings : List Record) (zones : List OneZone) (new : Record) (zone : OneZone) (made sets : List Record) (zones' : List OneZone) : Type 0 where
  pub apart : NoneDisplaces made
  pub records : Has new goings (third_for (chains_for (held_in goings zones) new) (chain_of new)) made
  pub sets_are : (item : Record) → Contains sets item ↔ (Contains made item × (chain_of item ≡ None))
  pub apex : zone.apex ≡ zone_of new
  pub whole : IsOneZone zone
  pub its : IsZoneOf made zone
  pub used : All (λ each. 0 < length each.records) zone.chains
  pub two : length (chains_for (held_in goings zones) new) ≤ 2
  pub once : AllPairs Differ (chains_for (held_in goings zones) new)
  pub chains : chains_in zone ≡ chains_with (chains_for (held_in goings zones) new) (chain_of new)
  pub zones_are : (each : OneZone) → Contains zones' each ↔ ((each ≡ zone) ⊎ (Contains zones each × (each.apex ≡ zone.apex → ⊥)))
  pub order : IsInOrder apex_cmp zones'

module _ (goings sets : List Record) (zones : List OneZone) (tied : IsTied goings sets zones) (new : Record) (zone : OneZone) (made sets' : List Record) (zones' : List OneZone) (put : IsPut goings zones new zone made sets' zones') where
  abbrev Before : Held
  Before = held_in goings zones

  abbrev Third : Option ZoneChain
  Third = third_for (chains_for Before new) (chain_of new)

  -- records of other zones stay
  third_is_not : (item : Record) → (zone_of item ≡ zone_of new → ⊥) → (o : Option ZoneChain) → ((t : ZoneChain) → o ≡ Some t → t.zone ≡ zone_of new) → is_of o item ≡ false
  third_is_not item differ None its_third = refl
  third_is_not item differ (Some t) its_third = false_from_ne_true (is_of_chain t item) (λ is. differ (sym (chain_zone item t (of_chain t item is)) ∙ its_third t refl))

  stays : (item : Record) → Contains goings item → (zone_of item ≡ zone_of new → ⊥) → Contains made item
  stays item has differ = (put.records item).1 (inr (
    has,
    false_from_ne_true (displaces new item) (λ is. differ (sym (displaced_zone new item is))),
    third_is_not item differ Third (third_zone Before new),
  ))

  was : (item : Record) → Contains made item → (zone_of item ≡ zone_of new → ⊥) → Contains goings item
  was item has differ = ⊎_elim (λ same. absurd (differ (ap zone_of same))) (λ old. old.0) ((put.records item).0 has)

  new_there : Contains made new
  new_there = (put.records new).1 (inl refl)

  zone_there : Contains zones' zone
  zone_there = (put.zones_are zone).1 (inl refl)

  elsewhere : (each : OneZone) → Contains zones each → (each.apex ≡ zone.apex → ⊥) → IsZoneOf made each
  elsewhere each has differ item = (
    λ h. (let two = (tied.zones_are each has item).0 h in (stays item two.0 (other item two.1), two.1)),
    λ h. (tied.zones_are each has item).1 (was item h.0 (other item h.1), h.1),
  )
    where
      other : (r : Record) → IsDenialOf each.apex r → zone_of r ≡ zone_of new → ⊥
      other r denial same = differ (sym (denial_zone each.apex r denial) ∙ (same ∙ sym put.apex))

  pub put_tied : IsTied made sets' zones'
  put_tied = record {
    apart = put.apart;
    whole = λ each has. ⊎_elim (λ same. subst IsOneZone (sym same) put.whole) (λ old. tied.whole each old.0) ((put.zones_are each).0 has);
    sets_are = put.sets_are;
    zones_are = λ each has. ⊎_elim (λ same. subst (IsZoneOf made) (sym same) put.its) (λ old. elsewhere each old.0 old.1) ((put.zones_are each).0 has);
    zone_listed = λ item has. listed item has (same_name (zone_of item) (zone_of new)) refl;
    zone_used = λ each has. ⊎_elim (λ same. (new, new_there, sym put.apex ∙ ap (λ (z : OneZone). z.apex) (sym same))) (λ old. used_still each old.0 old.1) ((put.zones_are each).0 has);
    chains_used = λ each has. ⊎_elim (λ same. subst (λ (z : OneZone). All (λ (c : OneChain). 0 < length c.records) z.chains) (sym same) put.used) (λ old. tied.chains_used each old.0) ((put.zones_are each).0 has);
  }
    where
      listed : (item : Record) → Contains made item → (b : Bool) → same_name (zone_of item) (zone_of new) ≡ b → (each : OneZone) × Contains zones' each × (each.apex ≡ zone_of item)
      listed item has true is = (zone, zone_there, put.apex ∙ sym (name_equal (zone_of item) (zone_of new) is))
      listed item has false is =
          let differ : zone_of item ≡ zone_of new → ⊥ = λ same. true≢false (sym (subst (λ z. same_name (zone_of item) z ≡ true) same (name_itself (zone_of item))) ∙ is) in
          let one = tied.zone_listed item (was item has differ) in
          (one.0, (put.zones_are one.0).1 (inr (one.1, λ same. differ (sym one.2 ∙ (same ∙ put.apex)))), one.2)

      used_still : (each : OneZone) → Contains zones each → (each.apex ≡ zone.apex → ⊥) → (item : Record) × Contains made item × (zone_of item ≡ each.apex)
      used_still each has differ =
          let one = tied.zone_used each has in
          (one.0, stays one.0 one.1 (λ same. differ (sym one.2 ∙ (same ∙ sym put.apex))), one.2)

  -- ---- the held state

  module _ (order : IsInOrder apex_cmp zones) where
    zone_lists : filter (in_zone (zone_of new)) (held_with Before new).chains ≡ filter (in_zone (zone_of new)) (chains_of_zones zones')
    zone_lists =
        held_chains_here Before new put.two put.once ∙ sym put.chains
        ∙ sym (one_of_zones zones' put.order put_tied.whole zone zone_there)
        ∙ ap (λ name. filter (in_zone name) (chains_of_zones zones')) put.apex

    other_lists : (name : List Label) → (zone_of new ≡ name → ⊥) → filter (in_zone name) (chains_of_zones zones) ≡ filter (in_zone name) (chains_of_zones zones')
    other_lists name differ = by (list_any (λ (z : OneZone). same_name z.apex name) zones) refl
      where
        by : (b : Bool) → list_any (λ (z : OneZone). same_name z.apex name) zones ≡ b → filter (in_zone name) (chains_of_zones zones) ≡ filter (in_zone name) (chains_of_zones zones')
        by true is =
            let one = found (λ (z : OneZone). same_name z.apex name) zones is in
            let same = name_equal one.0.apex name one.2 in
            let has = (put.zones_are one.0).1 (inr (one.1, λ apex. differ (sym put.apex ∙ (sym apex ∙ same)))) in
            subst (λ n. filter (in_zone n) (chains_of_zones zones) ≡ filter (in_zone n) (chains_of_zones zones')) same
            (one_of_zones zones order tied.whole one.0 one.1 ∙ sym (one_of_zones zones' put.order put_tied.whole one.0 has))
        by false is =
            let none : (z : OneZone) → Contains zones z → z.apex ≡ name → ⊥ = λ z has same. true≢false (sym (is_found (λ (y : OneZone). same_name y.apex name) zones z has (subst (λ n. same_name z.apex n ≡ true) same (name_itself z.apex))) ∙ is) in
            none_of_zones name zones tied.whole none
            ∙ sym (none_of_zones name zones' put_tied.whole (λ z has same. ⊎_elim (λ one. differ (sym put.apex ∙ (ap (λ (y : OneZone). y.apex) (sym one) ∙ same))) (λ old. none z old.0 same) ((put.zones_are z).0 has)))

    pub put_reordered : IsReordered (held_with Before new) (held_in made zones')
    put_reordered =
        reordered (held_with Before new) (held_in made zones')
        (λ item. (λ h. (put.records item).1 ((held_has Before new item).0 h), λ h. (held_has Before new item).1 ((put.records item).0 h)))
        (λ name. by name (same_name (zone_of new) name) refl)
      where
        by : (name : List Label) (b : Bool) → same_name (zone_of new) name ≡ b → filter (in_zone name) (held_with Before new).chains ≡ filter (in_zone name) (chains_of_zones zones')
        by name true is = subst (λ n. filter (in_zone n) (held_with Before new).chains ≡ filter (in_zone n) (chains_of_zones zones')) (name_equal (zone_of new) name is) zone_lists
        by name false is =
            let differ : zone_of new ≡ name → ⊥ = λ same. true≢false (sym (subst (λ n. same_name (zone_of new) n ≡ true) same (name_itself (zone_of new))) ∙ is) in
            held_chains_elsewhere Before new name differ ∙ other_lists name differ
