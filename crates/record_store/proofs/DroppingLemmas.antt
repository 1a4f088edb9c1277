-- What is left where a record goes: its sets, its zone, and the other zones.
use Rattle.std.proofs.Common.{◌≡◌, ◌≢◌, ◌⊎◌, ◌↔◌, inl, inr, ⊎_elim, ◌<◌, Bool, true, false, true≢false, nat_lt, List, [], ◌∷◌, ◌++◌, cond, length, get_or, drop, map, filter, All, Contains, Some, None, Result, Ok, Err, IfOk, refl, sym, ◌∙◌, ap, subst, arith}
use Rattle.std.specs.List.{flat_map, list_any}
use Rattle.std.specs.declared.cmp.Ordering.TheVariants.{Equal}
use Rattle.std.proofs.lemmas.Bool.Decides.{Decides-ltb}
use Rattle.std.proofs.lemmas.Cmp.{tied_itself}
use Rattle.std.proofs.lemmas.List.Concat.{flat_map-cons}
use Rattle.std.proofs.lemmas.List.Elements.{All-contains, All-head, All-weaker, filter_passes as all_pass}
use Rattle.std.proofs.lemmas.Option.{none-some}
use Rattle.facts.proofs.Pairs.{pairs_head}
use Rattle.facts.proofs.Filters.{was_kept, filters_commute}
use Rattle.facts.proofs.Lists.{here, there, here_or_there, nothing_in}
use Rattle.dname.specs.Name.{Label}
use Rattle.dname.specs.Tests.{same_name}
use Rattle.denial_records.specs.declared.record.Record.{Record}
use Rattle.denial_records.specs.declared.set_rec.SetRec.{SetRec}
use Rattle.denial_records.specs.declared.record.Record.TheVariants.{Set, Nsec, Nsec3}
use Rattle.cache_meaning.specs.Held.{ZoneChain, chain_of, zone_of, is_of_chain, chains_held}
use Rattle.held_laws.specs.HeldLaws.{IsApart, NoneDisplaces, EachChainHasARecord, IsReordered}
use Rattle.held_laws.proofs.KeyOrderLemmas.{in_zone, ListAlike, one_has_the_key}
use Rattle.held_laws.proofs.ListLemmas.{found, is_found}
use Rattle.dname.proofs.SameLemmas.{name_equal, same_names}
use Rattle.cache_meaning.proofs.ChainLemmas.{of_chain}
use Rattle.held_laws.proofs.ReorderLemmas.{reordered}
use Rattle.ordered_list.specs.Order.{IsInOrder, without_entry}
use Rattle.ordered_list.proofs.ChangeLemmas.{without_members}
use Rattle.ordered_list.proofs.OrderLemmas.{no_duplicates}
use Rattle.zone_chains.specs.Zone.{OneChain, OneZone, chains_in, records_in, IsOfItsChain, IsOneZone, IsDenialOf, has_records}
use Rattle.record_store.specs.Dropping.{AreSets, IsZoneLeft, AreWithLeft, AreWithoutLeft, AreZonesLeft}
use Rattle.record_store.specs.Holding.{chains_of_zones, held_in, IsZoneOf, IsTied, held_rest, AreBut}
use Rattle.record_store.specs.Ranks.{apex_cmp, going_cmp, goings_total, set_cmp, sets_total}
use Rattle.record_store.proofs.RestLemmas.{pairs_dropped}
use Rattle.record_store.proofs.MarkLemmas.{key_tied}
use Rattle.record_store.proofs.ZoneChainLemmas.{AreWhole, one_of_zones, none_of_zones, chains_all_held, chains_left}
use Rattle.record_store.proofs.ZoneLemmas.{in_flat, some_of_flat}

-- two facts of one result
pub both_ok : {X Y : Type 0} (r : Result X Y) (P Q R : X → Type 0) → ((x : X) → P x → Q x → R x) → IfOk r P → IfOk r Q → IfOk r R
both_ok (Ok x) P Q R joined p q = joined x p q
both_ok (Err e) P Q R joined p q = tt

-- ---- a record, its zone and its chain

-- a record is a set, or a denial record of its zone
set_or_denial : (item : Record) → (chain_of item ≡ None) ⊎ IsDenialOf (zone_of item) item
set_or_denial (Set set) = inl refl
set_or_denial (Nsec nsec) = inr refl
set_or_denial (Nsec3 nsec3) = inr refl

denial_zone : (apex : List Label) (item : Record) → IsDenialOf apex item → zone_of item ≡ apex
denial_zone apex (Set set) denial = absurd denial
denial_zone apex (Nsec nsec) denial = denial
denial_zone apex (Nsec3 nsec3) denial = denial

same_apex : (one other : List Label) → (one ≡ other) ⊎ (one ≡ other → ⊥)
same_apex one other = by (same_name one other) refl
  where
    by : (b : Bool) → same_name one other ≡ b → (one ≡ other) ⊎ (one ≡ other → ⊥)
    by true is = inl (name_equal one other is)
    by false is = inr (λ same. true≢false (sym (same_names one other same) ∙ is))

no_set_is_of_a_chain : (item : Record) → ((set : SetRec) → item ≡ Set set → ⊥) → chain_of item ≡ None → ⊥
no_set_is_of_a_chain (Set set) no_set none = no_set set refl
no_set_is_of_a_chain (Nsec nsec) no_set none = none-some _ (sym none)
no_set_is_of_a_chain (Nsec3 nsec3) no_set none = none-some _ (sym none)

-- what a zone has is of a chain
in_zone_of_chain : (zone : OneZone) → IsOneZone zone → (item : Record) → Contains (records_in zone) item → chain_of item ≡ None → ⊥
in_zone_of_chain zone is item has none =
    let each = some_of_flat (λ (c : OneChain). c.records) zone.chains item has in
    none-some _ (sym none ∙ All-contains (λ r. chain_of r ≡ Some each.0.chain) each.0.records item (All-contains IsOfItsChain zone.chains each.0 is.of_chain each.1) each.2)

-- each chain of the zones has a record
pub chains_have : (goings sets : List Record) (zones : List OneZone) → IsTied goings sets zones → EachChainHasARecord (held_in goings zones)
chains_have goings sets zones tied chain listed =
    let zone = some_of_flat chains_in zones chain listed in
    let all = chains_all_held goings zone.0 (tied.whole zone.0 zone.1) (tied.zones_are zone.0 zone.1) (tied.chains_used zone.0 zone.1) in
    let held = was_kept (λ (c : ZoneChain). list_any (is_of_chain c) goings) (chains_in zone.0) chain (subst (λ l. Contains l chain) (sym all) zone.2) in
    let one = found (is_of_chain chain) goings held.1 in
    (one.0, one.1, of_chain chain one.0 one.2)

-- ---- without the first

but_first : (xs ys : List Record) → IsInOrder going_cmp xs → (x : Record) → 0 < length xs → x ≡ get_or xs 0 x → ys ≡ drop 1 xs → AreBut x xs ys
but_first [] ys order x some is rest item = absurd (omega (arith, some))
but_first (y ∷ xs) ys order x some is rest item = (
  λ has. (let later = subst (λ l. Contains l item) rest has in
      (there y xs item later, λ same. All-contains (λ z. y ≢ z) xs item (pairs_head (λ a b. a ≢ b) y xs (no_duplicates going_cmp goings_total (y ∷ xs) order)) later (sym is ∙ sym same))),
  λ both. subst (λ l. Contains l item) (sym rest) (⊎_elim (λ same. absurd (both.1 (sym same ∙ sym is))) (λ later. later) (here_or_there y xs item both.0)),
)

-- the same, by what the steps say
pub first_gone : (xs goings held fewer : List Record) (first x : Record) → goings ≡ xs → IsInOrder going_cmp goings → 0 < length xs → held ≡ xs → first ≡ get_or held 0 first → x ≡ first → fewer ≡ drop 1 xs → AreBut x xs fewer
first_gone xs goings held fewer first x is order some is' here_first same rest =
    subst (λ r. AreBut r xs fewer) (sym same) (but_first xs fewer (subst (IsInOrder going_cmp) is order) first some (subst (λ l. first ≡ get_or l 0 first) is' here_first) rest)

pub apart_first : (xs ys : List Record) → NoneDisplaces xs → ys ≡ drop 1 xs → NoneDisplaces ys
apart_first xs ys apart rest = subst NoneDisplaces (sym rest) (pairs_dropped IsApart 1 xs apart)

-- ---- the sets

module _ (gone : Record) (goings sets : List Record) (zones : List OneZone) (tied : IsTied goings sets zones) (left : List Record) (but : AreBut gone goings left) where
  pub sets_but : Contains goings gone → (made : List Record) → made ≡ without_entry set_cmp gone sets → AreSets left made
  sets_but listed made is item =
      let has = without_members set_cmp gone sets item in (
        λ h. (let both = has.0 (subst (λ l. Contains l item) is h) in let was = (tied.sets_are item).0 both.0 in
            ((but item).1 (was.0, λ same. both.1 (subst (λ r. set_cmp item r ≡ Equal) same (tied_itself sets_total item))), was.1)),
        λ h. (let was = (but item).0 h.0 in subst (λ l. Contains l item) (sym is)
            (has.1 ((tied.sets_are item).1 (was.0, h.1), λ tie. was.1 (one_has_the_key goings tied.apart item gone was.0 listed (key_tied item gone tie))))),
      )

  pub sets_stay : ((set : SetRec) → gone ≡ Set set → ⊥) → (made : List Record) → made ≡ sets → AreSets left made
  sets_stay no_set made is item = (
    λ h. (let was = (tied.sets_are item).0 (subst (λ l. Contains l item) is h) in ((but item).1 (was.0, λ same. no_set_is_of_a_chain gone no_set (ap chain_of (sym same) ∙ was.1)), was.1)),
    λ h. subst (λ l. Contains l item) (sym is) ((tied.sets_are item).1 (((but item).0 h.0).0, h.1)),
  )

  -- ---- the zones

  pub has_zone : Contains goings gone → ((zone : OneZone) → Contains zones zone → zone.apex ≡ zone_of gone → ⊥) → ⊥
  has_zone listed none = let zone = tied.zone_listed gone listed in none zone.0 zone.1 zone.2

  module _ (zone rest : OneZone) (listed : Contains zones zone) (its : zone.apex ≡ zone_of gone) (is : IsZoneLeft gone zone rest) where
    -- it isn't of another zone
    elsewhere : (each : OneZone) → (each.apex ≡ rest.apex → ⊥) → zone_of gone ≡ each.apex → ⊥
    elsewhere each differ same = differ (sym same ∙ (sym its ∙ sym is.apex))

    others_are : (each : OneZone) → Contains zones each → (each.apex ≡ rest.apex → ⊥) → IsZoneOf left each
    others_are each has differ item = (
      λ h. (let was = (tied.zones_are each has item).0 h in
          ((but item).1 (was.0, λ same. elsewhere each differ (denial_zone each.apex gone (subst (IsDenialOf each.apex) same was.1))), was.1)),
      λ h. (tied.zones_are each has item).1 (((but item).0 h.0).0, h.1),
    )

    rest_is : IsZoneOf left rest
    rest_is item = (
      λ h. (let two = (is.records item).0 h in let was = (tied.zones_are zone listed item).0 two.0 in
          ((but item).1 (was.0, two.1), subst (λ a. IsDenialOf a item) (sym is.apex) was.1)),
      λ h. (let was = (but item).0 h.0 in (is.records item).1 ((tied.zones_are zone listed item).1 (was.0, subst (λ a. IsDenialOf a item) is.apex h.1), was.1)),
    )

    -- another zone still has a record
    others_used : (each : OneZone) → Contains zones each → (each.apex ≡ rest.apex → ⊥) → (item : Record) × Contains left item × (zone_of item ≡ each.apex)
    others_used each has differ =
        let one = tied.zone_used each has in
        (one.0, (but one.0).1 (one.1, λ same. elsewhere each differ (ap zone_of (sym same) ∙ one.2)), one.2)

    module _ (sets' : List Record) (apart : NoneDisplaces left) (are : AreSets left sets') (made : List OneZone) where
      tied_with : AreWithLeft sets' rest zones made → IsTied left sets' made
      tied_with with_it = record {
        apart = apart;
        whole = λ each has. ⊎_elim (λ same. subst IsOneZone (sym same) is.whole) (λ old. tied.whole each old.0) ((with_it.members each).0 has);
        sets_are = are;
        zones_are = λ each has. ⊎_elim (λ same. subst (IsZoneOf left) (sym same) rest_is) (λ old. others_are each old.0 old.1) ((with_it.members each).0 has);
        zone_listed = its_zone;
        zone_used = λ each has. ⊎_elim (λ same. subst (λ (z : OneZone). (item : Record) × Contains left item × (zone_of item ≡ z.apex)) (sym same) rest_used) (λ old. others_used each old.0 old.1) ((with_it.members each).0 has);
        chains_used = λ each has. ⊎_elim (λ same. subst (λ (z : OneZone). All (λ (c : OneChain). 0 < length c.records) z.chains) (sym same) is.used) (λ old. tied.chains_used each old.0) ((with_it.members each).0 has);
      }
        where
          its_zone : (item : Record) → Contains left item → (each : OneZone) × Contains made each × (each.apex ≡ zone_of item)
          its_zone item has =
              let old = tied.zone_listed item ((but item).0 has).0 in
              ⊎_elim (λ same. (rest, (with_it.members rest).1 (inl refl), sym same ∙ old.2)) (λ differ. (old.0, (with_it.members old.0).1 (inr (old.1, differ)), old.2)) (same_apex old.0.apex rest.apex)

          first_record : (chains : List OneChain) → (chains ≡ [] → ⊥) → All (λ (c : OneChain). 0 < length c.records) chains → (item : Record) × Contains (flat_map (λ (c : OneChain). c.records) chains) item
          first_record [] some used = absurd (some refl)
          first_record (c ∷ cs) some used = by c.records refl (All-head (λ (e : OneChain). 0 < length e.records) c cs used)
            where
              by : (records : List Record) → c.records ≡ records → 0 < length c.records → (item : Record) × Contains (flat_map (λ (e : OneChain). e.records) (c ∷ cs)) item
              by [] same more = absurd (omega (arith, more, ap length same))
              by (item ∷ items) same more = (item, in_flat (λ (e : OneChain). e.records) (c ∷ cs) c (here c cs) item (subst (λ l. Contains l item) (sym same) (here item items)))

          rest_used : (item : Record) × Contains left item × (zone_of item ≡ rest.apex)
          rest_used = ⊎_elim by_chain (λ set. (set.0, ((are set.0).0 set.1).0, set.2)) with_it.used
            where
              by_chain : (rest.chains ≡ [] → ⊥) → (item : Record) × Contains left item × (zone_of item ≡ rest.apex)
              by_chain some =
                  let one = first_record rest.chains some is.used in
                  let held = (rest_is one.0).0 one.1 in
                  (one.0, held.0, denial_zone rest.apex one.0 held.1)

      tied_without : AreWithoutLeft sets' rest zones made → IsTied left sets' made
      tied_without without_it = record {
        apart = apart;
        whole = λ each has. tied.whole each ((without_it.members each).0 has).0;
        sets_are = are;
        zones_are = λ each has. (let old = (without_it.members each).0 has in others_are each old.0 old.1);
        zone_listed = its_zone;
        zone_used = λ each has. (let old = (without_it.members each).0 has in others_used each old.0 old.1);
        chains_used = λ each has. tied.chains_used each ((without_it.members each).0 has).0;
      }
        where
          nothing : (item : Record) → Contains left item → zone_of item ≡ rest.apex → ⊥
          nothing item has same =
              ⊎_elim (λ none. without_it.no_set item ((are item).1 (has, none)) same)
              (λ denial. nothing_in item (subst (λ chains. Contains (flat_map (λ (c : OneChain). c.records) chains) item) without_it.no_chain ((rest_is item).1 (has, subst (λ a. IsDenialOf a item) same denial))))
              (set_or_denial item)

          its_zone : (item : Record) → Contains left item → (each : OneZone) × Contains made each × (each.apex ≡ zone_of item)
          its_zone item has =
              let old = tied.zone_listed item ((but item).0 has).0 in
              ⊎_elim (λ same. absurd (nothing item has (sym old.2 ∙ same))) (λ differ. (old.0, (without_it.members old.0).1 (old.1, differ), old.2)) (same_apex old.0.apex rest.apex)

      pub still_tied : AreZonesLeft sets' rest zones made → IsTied left sets' made
      still_tied = ⊎_elim tied_with tied_without

      -- ---- the chains

      module _ (order : IsInOrder apex_cmp zones) (order' : IsInOrder apex_cmp made) (zones_left : AreZonesLeft sets' rest zones made) where
        whole' : AreWhole made
        whole' = (still_tied zones_left).whole

        stays : (each : OneZone) → Contains zones each → (each.apex ≡ rest.apex → ⊥) → Contains made each
        stays each has differ = ⊎_elim (λ (w : AreWithLeft sets' rest zones made). (w.members each).1 (inr (has, differ))) (λ (w : AreWithoutLeft sets' rest zones made). (w.members each).1 (has, differ)) zones_left

        was_there : (each : OneZone) → Contains made each → (each.apex ≡ rest.apex → ⊥) → Contains zones each
        was_there each has differ =
            ⊎_elim (λ (w : AreWithLeft sets' rest zones made). ⊎_elim (λ same. absurd (differ (ap (λ (z : OneZone). z.apex) same))) (λ old. old.0) ((w.members each).0 has)) (λ (w : AreWithoutLeft sets' rest zones made). ((w.members each).0 has).0) zones_left

        rest_chains : filter (in_zone rest.apex) (chains_of_zones made) ≡ chains_in rest
        rest_chains =
            ⊎_elim (λ (w : AreWithLeft sets' rest zones made). one_of_zones made order' whole' rest ((w.members rest).1 (inl refl)))
            (λ (w : AreWithoutLeft sets' rest zones made). none_of_zones rest.apex made whole' (λ each has same. ((w.members each).0 has).1 same) ∙ ap (map (λ (c : OneChain). c.chain)) (sym w.no_chain)) zones_left

        held_of_zone : (apex : List Label) → filter (in_zone apex) (chains_held left (chains_of_zones zones)) ≡ chains_held left (filter (in_zone apex) (chains_of_zones zones))
        held_of_zone apex = filters_commute (in_zone apex) (λ chain. list_any (is_of_chain chain) left) (chains_of_zones zones)

        its_chains : filter (in_zone rest.apex) (chains_held left (chains_of_zones zones)) ≡ filter (in_zone rest.apex) (chains_of_zones made)
        its_chains =
            held_of_zone rest.apex
            ∙ ap (chains_held left) (subst (λ a. filter (in_zone a) (chains_of_zones zones) ≡ chains_in zone) (sym is.apex) (one_of_zones zones order tied.whole zone listed))
            ∙ sym (is.chains left rest_is) ∙ sym rest_chains

        others_chains : (apex : List Label) → (apex ≡ rest.apex → ⊥) → filter (in_zone apex) (chains_held left (chains_of_zones zones)) ≡ filter (in_zone apex) (chains_of_zones made)
        others_chains apex differ = by (list_any at_apex zones) refl
          where
            at_apex : OneZone → Bool
            at_apex each = same_name each.apex apex

            one : (each : OneZone) → Contains zones each → each.apex ≡ apex → filter (in_zone apex) (chains_held left (chains_of_zones zones)) ≡ filter (in_zone apex) (chains_of_zones made)
            one each has same =
                let other : each.apex ≡ rest.apex → ⊥ = λ equal. differ (sym same ∙ equal) in
                subst (λ a. filter (in_zone a) (chains_held left (chains_of_zones zones)) ≡ filter (in_zone a) (chains_of_zones made)) same
                (held_of_zone each.apex ∙ ap (chains_held left) (one_of_zones zones order tied.whole each has)
                ∙ chains_all_held left each (tied.whole each has) (others_are each has other) (tied.chains_used each has)
                ∙ sym (one_of_zones made order' whole' each (stays each has other)))

            by : (b : Bool) → list_any at_apex zones ≡ b → filter (in_zone apex) (chains_held left (chains_of_zones zones)) ≡ filter (in_zone apex) (chains_of_zones made)
            by true is_there = let z = found at_apex zones is_there in one z.0 z.1 (name_equal z.0.apex apex z.2)
            by false missing =
                held_of_zone apex ∙ ap (chains_held left) (none_of_zones apex zones tied.whole none) ∙ sym (none_of_zones apex made whole' none_made)
              where
                none : (each : OneZone) → Contains zones each → each.apex ≡ apex → ⊥
                none each has same = true≢false (sym (is_found at_apex zones each has (same_names each.apex apex same)) ∙ missing)

                none_made : (each : OneZone) → Contains made each → each.apex ≡ apex → ⊥
                none_made each has same = none each (was_there each has (λ equal. differ (sym same ∙ equal))) same

        pub same_left : IsReordered (held_rest left (held_in goings zones)) (held_in left made)
        same_left = reordered (held_rest left (held_in goings zones)) (held_in left made) (λ item. (λ has. has, λ has. has)) alike
          where
            alike : ListAlike (chains_held left (chains_of_zones zones)) (chains_of_zones made)
            alike apex =
                ⊎_elim (λ same. subst (λ a. filter (in_zone a) (chains_held left (chains_of_zones zones)) ≡ filter (in_zone a) (chains_of_zones made)) (sym same) its_chains) (others_chains apex) (same_apex apex rest.apex)

-- the zones without one of which nothing is held, by what the tests say
pub left_out : (sets : List Record) (left : OneZone) (zones made : List OneZone) (one other third : OneZone) (apex : List Label) → one ≡ left → other ≡ left → third ≡ left → apex ≡ other.apex → one.chains ≡ []
    → (has : Bool) → ((item : Record) → Contains sets item → zone_of item ≡ apex → has ≡ true) → has ≡ false
    → ((each : OneZone) → Contains made each ↔ (Contains zones each × (each.apex ≡ third.apex → ⊥))) → AreZonesLeft sets left zones made
left_out sets left zones made one other third apex is is' is'' apex_is empty has found' none members = inr (record {
  members = subst (λ (z : OneZone). (each : OneZone) → Contains made each ↔ (Contains zones each × (each.apex ≡ z.apex → ⊥))) is'' members;
  no_chain = subst (λ (z : OneZone). z.chains ≡ []) is empty;
  no_set = λ item there of. true≢false (sym (found' item there (of ∙ (sym (ap (λ (z : OneZone). z.apex) is') ∙ sym apex_is))) ∙ none);
})

-- ---- the zone

module _ (gone : Record) (zone : OneZone) (whole : IsOneZone zone) (used : All (λ (each : OneChain). 0 < length each.records) zone.chains) where
  -- a set leaves it
  pub zone_stays : chain_of gone ≡ None → (left : OneZone) → left ≡ zone → IsZoneLeft gone zone left
  zone_stays set left is = subst (IsZoneLeft gone zone) (sym is) (record {
    apex = refl;
    records = λ item. (λ has. (has, λ same. in_zone_of_chain zone whole item has (ap chain_of same ∙ set)), λ h. h.0);
    chains = λ records its. sym (chains_all_held records zone whole its used);
    used = used;
    whole = whole;
  })

empty_if : (records : List Record) → nat_lt 0 (length records) ≡ false → records ≡ []
empty_if [] is = refl
empty_if (item ∷ items) is = absurd (true≢false (sym ((Decides-ltb 0 (length (item ∷ items))).1 (omega arith)) ∙ is))

-- chains without records have none
flat_filtered : (chains : List OneChain) → flat_map (λ (c : OneChain). c.records) (filter has_records chains) ≡ flat_map (λ (c : OneChain). c.records) chains
flat_filtered [] = refl
flat_filtered (c ∷ cs) = by (has_records c) refl (flat_filtered cs)
  where
    its : OneChain → List Record
    its each = each.records

    by : (b : Bool) → has_records c ≡ b → flat_map its (filter has_records cs) ≡ flat_map its cs → flat_map its (cond b (c ∷ filter has_records cs) (filter has_records cs)) ≡ flat_map its (c ∷ cs)
    by true is h = flat_map-cons its c (filter has_records cs) ∙ (ap (λ l. c.records ++ l) h ∙ sym (flat_map-cons its c cs))
    by false is h = h ∙ (ap (λ l. l ++ flat_map its cs) (sym (empty_if c.records is)) ∙ sym (flat_map-cons its c cs))

-- the zone without the record, and then without the chains that have none
pub zone_less : (gone : Record) (zone without left : OneZone) → without.apex ≡ zone.apex → chains_in without ≡ chains_in zone → ((each : Record) → Contains (records_in without) each ↔ (Contains (records_in zone) each × (each ≢ gone))) → IsOneZone without
    → left.apex ≡ without.apex → left.chains ≡ filter has_records without.chains → IsOneZone left → IsZoneLeft gone zone left
zone_less gone zone without left apex chains records whole apex' chains' whole' = record {
  apex = apex' ∙ apex;
  records = λ item. (λ has. (records item).0 (subst (λ l. Contains l item) same has), λ h. subst (λ l. Contains l item) (sym same) ((records item).1 h));
  chains = λ goings its.
      ap (map (λ (c : OneChain). c.chain)) chains' ∙ (chains_left goings without whole (was_its goings its) ∙ ap (chains_held goings) chains);
  used = subst (All (λ (c : OneChain). 0 < length c.records)) (sym chains') (All-weaker (λ (c : OneChain). has_records c ≡ true) (λ (c : OneChain). 0 < length c.records) (λ c passes. (Decides-ltb 0 (length c.records)).0 passes) (filter has_records without.chains) (all_pass has_records without.chains));
  whole = whole';
}
  where
    same : records_in left ≡ records_in without
    same = ap (flat_map (λ (c : OneChain). c.records)) chains' ∙ flat_filtered without.chains

    was_its : (goings : List Record) → IsZoneOf goings left → IsZoneOf goings without
    was_its goings its item = (
      λ has. (let h = (its item).0 (subst (λ l. Contains l item) (sym same) has) in (h.0, subst (λ a. IsDenialOf a item) apex' h.1)),
      λ h. subst (λ l. Contains l item) same ((its item).1 (h.0, subst (λ a. IsDenialOf a item) (sym apex') h.1)),
    )
