-- What is looked up in the parts of a store is what is looked up in what they hold.
use Rattle.std.proofs.Common.{◌≡◌, ◌↔◌, ℕ, ◌+◌, ◌<◌, ◌≤◌, ◌⊎◌, inl, inr, ⊎_elim, Bool, true, false, true≢false, cond, List, [], ◌∷◌, ◌++◌, length, get_or, map, filter, find, Contains, Option, Some, None, Bor, refl, sym, ◌∙◌, ap, subst, arith}
use Rattle.std.specs.Prelude.{MatchOption, ◌^◌}
use Rattle.std.specs.List.{list_any, prefix_len}
use Rattle.std.specs.Option.{option_or, option_copied}
use Rattle.std.specs.Ordering.{is_le, nat_cmp}
use Rattle.std.specs.Cmp.{IsTotalOrder}
use Rattle.std.specs.declared.cmp.Ordering.{Ordering}
use Rattle.std.specs.declared.cmp.Ordering.TheVariants.{Less, Equal}
use Rattle.std.proofs.lemmas.Bool.{cases_lt, and_parts}
use Rattle.std.proofs.lemmas.Bool.Decides.{Decides-eqb}
use Rattle.std.proofs.lemmas.Cmp.{nat_cmp_total, tied_itself}
use Rattle.std.proofs.lemmas.Grind.{common_steps}
use Rattle.std.proofs.lemmas.List.{append-nil, get_or_read}
use Rattle.std.proofs.lemmas.List.Elements.{All-contains, filter-append}
use Rattle.std.proofs.lemmas.List.Sums.{prefix_len_passes, prefix_len_stops}
use Rattle.std.proofs.lemmas.Option.{none-some}
use Rattle.facts.proofs.Filters.{filter_all, filter_none}
use Rattle.facts.proofs.Lists.{here, there, here_or_there, nothing_in}
use Rattle.dname.specs.Name.{Label, canonical_cmp}
use Rattle.dname.specs.Order.{canonical_same}
use Rattle.dname.specs.Tests.{same_name}
use Rattle.dname.specs.declared.types.TheConstants.{CNAME_TYPE}
use Rattle.denial_records.specs.declared.nsec_rec.NsecRec.{NsecRec}
use Rattle.denial_records.specs.declared.nsec3_rec.Nsec3Rec.{Nsec3Rec}
use Rattle.denial_records.specs.declared.set_rec.SetRec.{SetRec}
use Rattle.denial_records.specs.declared.record.Record.{Record}
use Rattle.denial_records.specs.declared.record.Record.TheVariants.{Set, Nsec, Nsec3}
use Rattle.cache_meaning.specs.Held.{Held, HashParameters, ZoneChain, chain_of, zone_of, key_cmp}
use Rattle.cache_meaning.specs.Zones.{candidates, zone_for, first_of, as_set_at, as_nsec_at, as_nsec3_at, set_at, nsec_at, nsec3_at}
use Rattle.held_laws.specs.HeldLaws.{NoneDisplaces, IsReordered}
use Rattle.held_laws.specs.KeyOrder.{in_key_order}
use Rattle.held_laws.proofs.ListLemmas.{found, is_found}
use Rattle.dname.proofs.SameLemmas.{name_equal, same_names}
use Rattle.held_laws.proofs.OrderedLemmas.{key_order_same, apart_in_key_order}
use Rattle.held_laws.proofs.SameLemmas.{same_set, same_nsec, same_nsec3, same_zone}
use Rattle.ordered_list.specs.Order.{IsInOrder}
use Rattle.ordered_list.proofs.OrderLemmas.{below_rest, rest_in_order}
use Rattle.ordered_list.proofs.PlaceLemmas.{upto_first}
use Rattle.zone_chains.specs.Zone.{OneZone, chains_in, records_in, IsOneZone, IsDenialOf, IsChosen}
use Rattle.record_store.specs.Holding.{held_in, chains_of_zones, IsTied}
use Rattle.record_store.specs.LookUp.{is_apex, first_apex, IsFirstZone, IsZoneIn, set_like, AreAllAbove, IsLastSet}
use Rattle.record_store.specs.Ranks.{apex_cmp, set_cmp, sets_total, sets_rise}
use Rattle.record_store.specs.Marks.{type_part, owner_number, set_number, set_mark}
use Rattle.record_store.proofs.MarkLemmas.{key_mark, set_tied}

-- ---- the zone for a question

module _ (goings sets : List Record) (zones : List OneZone) (tied : IsTied goings sets zones) where
  -- a zone is listed just where a record of it is held
  apex_of_held : (name : List Label) → is_apex zones name ≡ list_any (λ item. same_name (zone_of item) name) goings
  apex_of_held name = by (is_apex zones name) (list_any (λ item. same_name (zone_of item) name) goings) refl refl
    where
      by : (b d : Bool) → is_apex zones name ≡ b → list_any (λ item. same_name (zone_of item) name) goings ≡ d → b ≡ d
      by true true is are = refl
      by false false is are = refl
      by true false is are =
          let zone = found (λ (z : OneZone). same_name z.apex name) zones is in
          let item = tied.zone_used zone.0 zone.1 in
          sym (is_found (λ (r : Record). same_name (zone_of r) name) goings item.0 item.1 (ap (λ l. same_name l name) item.2 ∙ zone.2)) ∙ are
      by false true is are =
          let item = found (λ (r : Record). same_name (zone_of r) name) goings are in
          let zone = tied.zone_listed item.0 item.1 in
          sym is ∙ is_found (λ (z : OneZone). same_name z.apex name) zones zone.0 zone.1 (ap (λ l. same_name l name) zone.2 ∙ item.2)

  pub zone_for_held : (name : List Label) (qtype : ℕ) → first_apex zones (candidates name qtype) ≡ zone_for (in_key_order (held_in goings zones)) name qtype
  zone_for_held name qtype =
      (λ i. find (λ apex. apex_of_held apex i) (candidates name qtype))
      ∙ same_zone (held_in goings zones) (in_key_order (held_in goings zones)) (key_order_same (held_in goings zones)) name qtype

-- ---- a zone's chains

names_apart : (x y : List Label) → (x ≡ y → ⊥) → same_name x y ≡ false
names_apart x y differ = by (same_name x y) refl
  where
    by : (b : Bool) → same_name x y ≡ b → b ≡ false
    by false is = refl
    by true is = absurd (differ (name_equal x y is))

module _ (key : List Label) where
  abbrev of_key : ZoneChain → Bool
  of_key chain = same_name chain.zone key

  all_its : (zone : OneZone) → IsOneZone zone → zone.apex ≡ key → filter of_key (chains_in zone) ≡ chains_in zone
  all_its zone whole same = filter_all of_key (chains_in zone) (λ k d within. same_names _ key (whole.here k d within ∙ same))

  none_its : (zone : OneZone) → IsOneZone zone → (zone.apex ≡ key → ⊥) → filter of_key (chains_in zone) ≡ []
  none_its zone whole differ = filter_none of_key (chains_in zone) (λ k d within. ap (λ l. same_name l key) (whole.here k d within) ∙ names_apart zone.apex key differ)

  none_of : (zones : List OneZone) → ((zone : OneZone) → Contains zones zone → IsOneZone zone) → ((zone : OneZone) → Contains zones zone → zone.apex ≡ key → ⊥) → filter of_key (chains_of_zones zones) ≡ []
  none_of [] whole differ = refl
  none_of (zone ∷ rest) whole differ =
      filter-append of_key (chains_in zone) (chains_of_zones rest)
      ∙ rw (none_its zone (whole zone (here zone rest)) (differ zone (here zone rest)))
      (none_of rest (λ each has. whole each (there zone rest each has)) (λ each has. differ each (there zone rest each has)))

  one_of : (zones : List OneZone) → IsInOrder apex_cmp zones → ((zone : OneZone) → Contains zones zone → IsOneZone zone) → (zone : OneZone) → Contains zones zone → zone.apex ≡ key → filter of_key (chains_of_zones zones) ≡ chains_in zone
  one_of [] order whole zone has same = absurd (nothing_in zone has)
  one_of (first ∷ rest) order whole zone has same =
      filter-append of_key (chains_in first) (chains_of_zones rest)
      ∙ by (here_or_there first rest zone has) (one_of rest (rest_in_order apex_cmp first rest order) (λ each later. whole each (there first rest each later)) zone)
    where
      apart : (each : OneZone) → Contains rest each → first.apex ≡ each.apex → ⊥
      apart each later equal =
          let less : canonical_cmp first.apex each.apex ≡ Less = All-contains (λ (z : OneZone). apex_cmp first z ≡ Less) rest each (below_rest apex_cmp first rest order) later in
          let tie = canonical_same first.apex each.apex equal in
          cc

      by : (first ≡ zone) ⊎ Contains rest zone → (Contains rest zone → zone.apex ≡ key → filter of_key (chains_of_zones rest) ≡ chains_in zone) → filter of_key (chains_in first) ++ filter of_key (chains_of_zones rest) ≡ chains_in zone
      by (inl is) more =
          let at_key : first.apex ≡ key = ap (λ (z : OneZone). z.apex) is ∙ same in
          rw (all_its first (whole first (here first rest)) at_key, none_of rest (λ each later. whole each (there first rest each later)) (λ each later is_key. apart each later (at_key ∙ sym is_key)), append-nil)
          (ap chains_in is)
      by (inr later) more =
          rw (none_its first (whole first (here first rest)) (λ at_key. apart zone later (at_key ∙ sym same)))
          (more later same)

-- ---- a zone of what is held

is_zone_in : (goings sets : List Record) (zones : List OneZone) → IsTied goings sets zones → IsInOrder apex_cmp zones → (zone : OneZone) → Contains zones zone → IsZoneIn (in_key_order (held_in goings zones)) zone
is_zone_in goings sets zones tied order zone has =
    let held = held_in goings zones in
    let same = key_order_same held in
    record {
      apart = apart_in_key_order held tied.apart;
      its = λ item. (
        λ h. (let is = (tied.zones_are zone has item).0 h in ((same.records item).0 is.0, is.1)),
        λ h. (tied.zones_are zone has item).1 ((same.records item).1 h.0, h.1),
      );
      chains = sym (same.chains zone.apex) ∙ ap (map (λ (c : ZoneChain). c.chain)) (one_of zone.apex zones order tied.whole zone has refl);
    }

pub zone_is_found : (goings sets : List Record) (zones : List OneZone) → IsTied goings sets zones → (name : List Label) (qtype : ℕ) (zone : OneZone) → IsFirstZone zones (candidates name qtype) zone
    → (zone_for (in_key_order (held_in goings zones)) name qtype ≡ Some zone.apex) × IsZoneIn (in_key_order (held_in goings zones)) zone
zone_is_found goings sets zones tied name qtype zone is =
    (sym (zone_for_held goings sets zones tied name qtype) ∙ is.first, is_zone_in goings sets zones tied is.in_order zone is.listed)

-- ---- what is chosen is what is looked up

module _ {A : Type 0} (choose : Record → Option A) where
  none_first : (records : List Record) → ((item : Record) → Contains records item → choose item ≡ None) → first_of choose records ≡ None
  none_first [] none = refl
  none_first (item ∷ rest) none = rw (none item (here item rest)) (none_first rest (λ each has. none each (there item rest each has)))

  chosen_among : (records others : List Record) → ((item : Record) (a : A) → choose item ≡ Some a → Contains records item ↔ Contains others item) → (result : Option A) → IsChosen choose records result → IsChosen choose others result
  chosen_among records others same (Some a) chosen = (chosen.0, (same chosen.0 a chosen.2).0 chosen.1, chosen.2)
  chosen_among records others same None none = λ item has. by item has (choose item) refl
    where
      by : (item : Record) → Contains others item → (o : Option A) → choose item ≡ o → choose item ≡ None
      by item has None is = is
      by item has (Some a) is = absurd (none-some _ (sym (none item ((same item a is).1 has)) ∙ is))

-- a record once more
same_again : (held : Held) (item : Record) → Contains held.records item → IsReordered held (record { records = item ∷ held.records; chains = held.chains })
same_again held item has = record {
  records = λ each. (there item held.records each, λ h. ⊎_elim (λ same. subst (Contains held.records) same has) (λ later. later) (here_or_there item held.records each h));
  chains = λ zone. refl;
}

module _ (held : Held) (apart : NoneDisplaces held.records) where
  set_chosen : (zone owner : List Label) (rtype : ℕ) (result : Option SetRec) → IsChosen (as_set_at zone owner rtype) held.records result → result ≡ set_at held zone owner rtype
  set_chosen zone owner rtype None none = sym (none_first (as_set_at zone owner rtype) held.records none)
  set_chosen zone owner rtype (Some set) chosen =
      sym (same_set held _ apart (same_again held chosen.0 chosen.1) zone owner rtype ∙ ap (λ o. option_or o (first_of (as_set_at zone owner rtype) held.records)) chosen.2)

  nsec_chosen : (zone name : List Label) (result : Option NsecRec) → IsChosen (as_nsec_at zone name) held.records result → result ≡ nsec_at held zone name
  nsec_chosen zone name None none = sym (none_first (as_nsec_at zone name) held.records none)
  nsec_chosen zone name (Some nsec) chosen =
      sym (same_nsec held _ apart (same_again held chosen.0 chosen.1) zone name ∙ ap (λ o. option_or o (first_of (as_nsec_at zone name) held.records)) chosen.2)

  nsec3_chosen : (zone : List Label) (parameters : HashParameters) (hash : List ℕ) (result : Option Nsec3Rec) → IsChosen (as_nsec3_at zone parameters hash) held.records result → result ≡ nsec3_at held zone parameters hash
  nsec3_chosen zone parameters hash None none = sym (none_first (as_nsec3_at zone parameters hash) held.records none)
  nsec3_chosen zone parameters hash (Some nsec3) chosen =
      sym (same_nsec3 held _ apart (same_again held chosen.0 chosen.1) zone parameters hash ∙ ap (λ o. option_or o (first_of (as_nsec3_at zone parameters hash) held.records)) chosen.2)

-- what a choice takes is a denial record of the zone, or a set

if_so : {A : Type 0} (b : Bool) (x y : A) → cond b (Some x) None ≡ Some y → b ≡ true
if_so true x y is = refl
if_so false x y is = absurd (none-some _ is)

nsec_is_denial : (zone name : List Label) (item : Record) (a : NsecRec) → as_nsec_at zone name item ≡ Some a → IsDenialOf zone item
nsec_is_denial zone name (Set set) a is = absurd (none-some _ is)
nsec_is_denial zone name (Nsec nsec) a is = name_equal nsec.zone zone (and_parts _ _ (if_so _ nsec a is)).0
nsec_is_denial zone name (Nsec3 nsec3) a is = absurd (none-some _ is)

nsec3_is_denial : (zone : List Label) (parameters : HashParameters) (hash : List ℕ) (item : Record) (a : Nsec3Rec) → as_nsec3_at zone parameters hash item ≡ Some a → IsDenialOf zone item
nsec3_is_denial zone parameters hash (Set set) a is = absurd (none-some _ is)
nsec3_is_denial zone parameters hash (Nsec nsec) a is = absurd (none-some _ is)
nsec3_is_denial zone parameters hash (Nsec3 nsec3) a is = name_equal nsec3.zone zone (and_parts _ _ (if_so _ nsec3 a is)).0

set_has_no_chain : (zone owner : List Label) (rtype : ℕ) (item : Record) (a : SetRec) → as_set_at zone owner rtype item ≡ Some a → chain_of item ≡ None
set_has_no_chain zone owner rtype (Set set) a is = refl
set_has_no_chain zone owner rtype (Nsec nsec) a is = absurd (none-some _ is)
set_has_no_chain zone owner rtype (Nsec3 nsec3) a is = absurd (none-some _ is)

module _ (held : Held) (zone : OneZone) (is : IsZoneIn held zone) where
  pub nsec_in_zone : (name : List Label) (result : Option NsecRec) → IsChosen (as_nsec_at zone.apex name) (records_in zone) result → result ≡ nsec_at held zone.apex name
  nsec_in_zone name result chosen =
      nsec_chosen held is.apart zone.apex name result
      (chosen_among (as_nsec_at zone.apex name) (records_in zone) held.records (λ item a choice.
      (λ h. ((is.its item).0 h).0, λ h. (is.its item).1 (h, nsec_is_denial zone.apex name item a choice))) result chosen)

  pub nsec3_in_zone : (parameters : HashParameters) (hash : List ℕ) (result : Option Nsec3Rec) → IsChosen (as_nsec3_at zone.apex parameters hash) (records_in zone) result → result ≡ nsec3_at held zone.apex parameters hash
  nsec3_in_zone parameters hash result chosen =
      nsec3_chosen held is.apart zone.apex parameters hash result
      (chosen_among (as_nsec3_at zone.apex parameters hash) (records_in zone) held.records (λ item a choice.
      (λ h. ((is.its item).0 h).0, λ h. (is.its item).1 (h, nsec3_is_denial zone.apex parameters hash item a choice))) result chosen)

set_in_sets : (goings sets : List Record) (zones : List OneZone) → IsTied goings sets zones → (zone owner : List Label) (rtype : ℕ) (result : Option SetRec) → IsChosen (as_set_at zone owner rtype) sets result → result ≡ set_at (in_key_order (held_in goings zones)) zone owner rtype
set_in_sets goings sets zones tied zone owner rtype result chosen =
    let held = held_in goings zones in
    set_chosen held tied.apart zone owner rtype result
    (chosen_among (as_set_at zone owner rtype) sets goings (λ item a choice.
    (λ h. ((tied.sets_are item).0 h).0, λ h. (tied.sets_are item).1 (h, set_has_no_chain zone owner rtype item a choice))) result chosen)
    ∙ same_set held (in_key_order held) tied.apart (key_order_same held) zone owner rtype

-- and so it is in the state that they are
pub set_in_view : (goings sets : List Record) (zones : List OneZone) → IsTied goings sets zones → (held : Held) → held_in goings zones ≡ held → (zone owner : List Label) (rtype : ℕ) (list : List Record) → list ≡ sets → (result : Option SetRec) → IsChosen (as_set_at zone owner rtype) list result → result ≡ set_at (in_key_order held) zone owner rtype
set_in_view goings sets zones tied held is zone owner rtype list same result chosen =
    subst (λ h. result ≡ set_at (in_key_order h) zone owner rtype) is
    (set_in_sets goings sets zones tied zone owner rtype result (subst (λ l. IsChosen (as_set_at zone owner rtype) l result) same chosen))

-- ---- the place of what ties, in a list in order

module _ {X : Type 0} (cmp : X → X → Ordering) (total : IsTotalOrder cmp) (like : X) (xs : List X) (order : IsInOrder cmp xs) where
  abbrev upto : X → Bool
  upto x = is_le (cmp x like)

  -- nothing that doesn't rank above stands behind those
  upto_within : (x : X) (has : Contains xs x) → upto x ≡ true → has.0 < prefix_len upto xs
  upto_within x has passes = by (cases_lt has.0 (prefix_len upto xs))
    where
      by : (has.0 < prefix_len upto xs) ⊎ (prefix_len upto xs ≤ has.0) → has.0 < prefix_len upto xs
      by (inl within) = within
      by (inr behind) =
          let first : upto (get_or xs (prefix_len upto xs) x) ≡ true = upto_first cmp total like xs order (prefix_len upto xs) has.0 x behind has.1 (ap upto has.2 ∙ passes) in
          absurd (true≢false (sym first ∙ prefix_len_stops upto xs x (omega (arith, has.1))))

  tied_within : (x : X) (has : Contains xs x) → cmp x like ≡ Equal → has.0 < prefix_len upto xs
  tied_within x has tie = upto_within x has (ap is_le tie)

  -- and none of those ranks above the last of them
  upto_last : (n : ℕ) → n + 1 ≡ prefix_len upto xs → (x y : X) → Contains xs x → upto x ≡ true → n < length xs → y ≡ get_or xs n y → (cmp x y ≡ Less) ⊎ (x ≡ y)
  upto_last n last x y has passes within is = by (cases_lt has.0 n)
    where
      y_here : y ≡ get_or xs n x
      y_here = get_or_read xs n y within is x

      by : (has.0 < n) ⊎ (n ≤ has.0) → (cmp x y ≡ Less) ⊎ (x ≡ y)
      by (inl before) = inl (subst (λ z. cmp x z ≡ Less) (sym y_here) (subst (λ z. cmp z (get_or xs n x) ≡ Less) has.2 (order has.0 n x before within)))
      by (inr from) =
          let same : has.0 ≡ n = omega (arith, from, last, upto_within x has passes) in
          inr (sym has.2 ∙ (ap (λ k. get_or xs k x) same ∙ sym y_here))

  above_tied : (x y : X) → cmp x y ≡ Less → cmp x like ≡ Equal → is_le (cmp y like) ≡ false
  above_tied x y less tie = grind (arith, common_steps, total)

  tied_is_last : (n : ℕ) → n + 1 ≡ prefix_len upto xs → (x : X) → Contains xs x → cmp x like ≡ Equal → (y : X) → n < length xs → y ≡ get_or xs n y → y ≡ x
  tied_is_last n last x has tie y within is = by (cases_lt has.0 n)
    where
      y_here : y ≡ get_or xs n x
      y_here = get_or_read xs n y within is x

      by : (has.0 < n) ⊎ (n ≤ has.0) → y ≡ x
      by (inl before) =
          let less : cmp x (get_or xs n x) ≡ Less = subst (λ z. cmp z (get_or xs n x) ≡ Less) has.2 (order has.0 n x before within) in
          absurd (true≢false (sym (prefix_len_passes upto xs n x (omega (arith, last))) ∙ above_tied x (get_or xs n x) less tie))
      by (inr from) =
          let same : n ≡ has.0 = omega (arith, from, last, tied_within x has tie) in
          y_here ∙ (ap (λ k. get_or xs k x) same ∙ has.2)

not_both : {X : Type 0} (cmp : X → X → Ordering) → IsTotalOrder cmp → (x y : X) → cmp x y ≡ Less → cmp y x ≡ Less → ⊥
not_both cmp total x y less back = grind (arith, common_steps, total)

-- a set that is chosen ties with such a set
set_ties : (zone owner : List Label) (rtype : ℕ) (item : Record) (a : SetRec) → as_set_at zone owner rtype item ≡ Some a → key_cmp item (set_like zone owner rtype) ≡ Equal
set_ties zone owner rtype (Nsec nsec) a is = absurd (none-some _ is)
set_ties zone owner rtype (Nsec3 nsec3) a is = absurd (none-some _ is)
set_ties zone owner rtype (Set set) a is =
    let first = and_parts _ _ (if_so _ set a is) in
    let second = and_parts _ _ first.1 in
    let zones = canonical_same set.zone zone (name_equal _ _ first.0) in
    let owners = canonical_same set.owner owner (name_equal _ _ second.0) in
    let types = subst (λ n. nat_cmp set.rtype n ≡ Equal) ((Decides-eqb set.rtype rtype).0 second.1) (tied_itself nat_cmp_total set.rtype) in
    rw (zones, owners) types

other_number : (zone owner : List Label) (rtype : ℕ) (item : Record) → (set_mark item ≡ set_mark (set_like zone owner rtype) → ⊥) → None ≡ as_set_at zone owner rtype item
other_number zone owner rtype item apart = by (as_set_at zone owner rtype item) refl
  where
    by : (o : Option SetRec) → as_set_at zone owner rtype item ≡ o → None ≡ as_set_at zone owner rtype item
    by None none = sym none
    by (Some set) some = absurd (apart (key_mark item (set_like zone owner rtype) (set_ties zone owner rtype item set some)))

module _ (zone owner : List Label) (rtype : ℕ) (sets : List Record) where
  abbrev sought : Record
  sought = set_like zone owner rtype

  pub none_upto : AreAllAbove sets sought → IsChosen (as_set_at zone owner rtype) sets None
  none_upto are each has = by (as_set_at zone owner rtype each) refl
    where
      by : (o : Option SetRec) → as_set_at zone owner rtype each ≡ o → as_set_at zone owner rtype each ≡ None
      by None none = none
      by (Some set) some = absurd (omega (arith, are.none, tied_within set_cmp sets_total sought sets are.in_order each has (set_tied each sought (set_ties zone owner rtype each set some))))

  module _ (mark : ℕ) (item : Record) (is : IsLastSet sets sought mark item) where
    pub chosen_last : (result : Option SetRec) → result ≡ as_set_at zone owner rtype item → IsChosen (as_set_at zone owner rtype) sets result
    chosen_last (Some set) result = (item, (is.place, is.within, sym is.its), sym result)
    chosen_last None result = λ each has. by each has (as_set_at zone owner rtype each) refl
      where
        by : (each : Record) → Contains sets each → (o : Option SetRec) → as_set_at zone owner rtype each ≡ o → as_set_at zone owner rtype each ≡ None
        by each has None none = none
        by each has (Some set) some =
            let same = tied_is_last set_cmp sets_total sought sets is.in_order is.place is.last each has (set_tied each sought (set_ties zone owner rtype each set some)) item is.within is.its in
            absurd (none-some _ (result ∙ (ap (as_set_at zone owner rtype) same ∙ some)))

    -- a record of another number is no such set
    pub none_of_number : (number : ℕ) → number ≡ set_number zone owner rtype → (mark ≡ number → ⊥) → IsChosen (as_set_at zone owner rtype) sets None
    none_of_number number its apart =
        chosen_last None (other_number zone owner rtype item (λ same. apart (is.marked ∙ (same ∙ sym its))))

-- ---- the CNAME set at the owner name, by a search for a set of the owner name

alias_number : (zone owner : List Label) → set_number zone owner CNAME_TYPE ≡ owner_number zone owner
alias_number zone owner = omega arith

-- no other type has the CNAME type's number
first_type : (rtype : ℕ) → rtype < 2 ^ 16 → (rtype ≡ CNAME_TYPE) ⊎ (0 < type_part rtype)
first_type rtype small = by (cases_lt 0 (type_part rtype))
  where
    by : (0 < type_part rtype) ⊎ (type_part rtype ≤ 0) → (rtype ≡ CNAME_TYPE) ⊎ (0 < type_part rtype)
    by (inl more) = inr more
    by (inr none) = inl (omega (arith, none, small))

-- a CNAME set doesn't come after a set of its owner name
alias_upto : (zone owner : List Label) (rtype : ℕ) → rtype < 2 ^ 16 → (item : Record) → key_cmp item (set_like zone owner CNAME_TYPE) ≡ Equal → is_le (set_cmp item (set_like zone owner rtype)) ≡ true
alias_upto zone owner rtype small item tie = by (first_type rtype small)
  where
    its : set_mark item ≡ owner_number zone owner
    its = key_mark item (set_like zone owner CNAME_TYPE) tie ∙ alias_number zone owner

    by : (rtype ≡ CNAME_TYPE) ⊎ (0 < type_part rtype) → is_le (set_cmp item (set_like zone owner rtype)) ≡ true
    by (inl same) = subst (λ t. is_le (set_cmp item (set_like zone owner t)) ≡ true) (sym same) (ap is_le (set_tied item (set_like zone owner CNAME_TYPE) tie))
    by (inr more) = ap is_le (sets_rise item (set_like zone owner rtype) (omega (arith, its, more)))

not_less : (one other : Record) → set_cmp one other ≡ Less → set_mark one ≤ set_mark other
not_less one other less = ⊎_elim (λ back. absurd (not_both set_cmp sets_total one other less (sets_rise other one back))) (λ upto. upto) (cases_lt (set_mark other) (set_mark one))

module _ (zone owner : List Label) (rtype : ℕ) (small : rtype < 2 ^ 16) (sets : List Record) where
  abbrev of_owner : Record
  of_owner = set_like zone owner rtype

  pub no_alias_upto : AreAllAbove sets of_owner → IsChosen (as_set_at zone owner CNAME_TYPE) sets None
  no_alias_upto are each has = by (as_set_at zone owner CNAME_TYPE each) refl
    where
      by : (o : Option SetRec) → as_set_at zone owner CNAME_TYPE each ≡ o → as_set_at zone owner CNAME_TYPE each ≡ None
      by None none = none
      by (Some set) some = absurd (omega (arith, are.none, upto_within set_cmp sets_total of_owner sets are.in_order each has (alias_upto zone owner rtype small each (set_ties zone owner CNAME_TYPE each set some))))

  module _ (mark : ℕ) (item : Record) (is : IsLastSet sets of_owner mark item) (least : ℕ) (its : least ≡ owner_number zone owner) where
    -- a record before all sets of the owner name
    none_before : mark < least → IsChosen (as_set_at zone owner CNAME_TYPE) sets None
    none_before less each has = by (as_set_at zone owner CNAME_TYPE each) refl
      where
        by : (o : Option SetRec) → as_set_at zone owner CNAME_TYPE each ≡ o → as_set_at zone owner CNAME_TYPE each ≡ None
        by None none = none
        by (Some set) some =
            let tie = set_ties zone owner CNAME_TYPE each set some in
            let number : set_mark each ≡ owner_number zone owner = key_mark each (set_like zone owner CNAME_TYPE) tie ∙ alias_number zone owner in
            let upto : set_mark each ≤ set_mark item =
            ⊎_elim (not_less each item) (λ same. subst (λ z. set_mark each ≤ set_mark z) same (omega arith))
            (upto_last set_cmp sets_total of_owner sets is.in_order is.place is.last each item has (alias_upto zone owner rtype small each tie) is.within is.its) in
            absurd (omega (arith, less, its, is.marked, number, upto))

    pub alias_told : (alias : Option (Bor SetRec)) → MatchOption alias (mark < least) (λ set. as_set_at zone owner CNAME_TYPE item ≡ Some set.now) → IsChosen (as_set_at zone owner CNAME_TYPE) sets (option_copied alias)
    alias_told None less = none_before less
    alias_told (Some set) is' = (item, (is.place, is.within, sym is.its), is')
