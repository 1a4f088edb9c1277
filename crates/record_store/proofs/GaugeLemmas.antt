-- How many zones and chains are held.
use Rattle.std.proofs.Common.{◌≡◌, ◌≢◌, ℕ, ◌+◌, ◌≤◌, ⊎_elim, Bool, true, false, true≢false, cond, List, [], ◌∷◌, length, map, Contains, Option, Some, get_or, unwrap_or, slice_get, refl, sym, ◌∙◌, ap, subst, arith}
use Rattle.std.specs.Bool.{Decides}
use Rattle.std.specs.Cmp.{IsEquivalence}
use Rattle.std.specs.List.{AllPairs}
use Rattle.std.specs.Option.{option_len}
use Rattle.std.specs.Set.{is_member, unique_keys, distinct_count}
use Rattle.std.specs.declared.cmp.Ordering.TheVariants.{Less}
use Rattle.std.proofs.lemmas.Bool.{false_from_ne_true}
use Rattle.std.proofs.lemmas.Bool.Decides.{same_from_decides}
use Rattle.std.proofs.lemmas.List.{length-append, length-map}
use Rattle.std.proofs.lemmas.List.Concat.{flat_map-cons}
use Rattle.std.proofs.lemmas.List.Elements.{All-contains}
use Rattle.std.proofs.lemmas.List.Kept.{AllPairs-cons}
use Rattle.std.proofs.lemmas.Map.Made.{IsDistinct-from_AllPairs, length-from_keys, length-le_from_is_member}
use Rattle.facts.proofs.Lists.{here, there, here_or_there, all_by_member}
use Rattle.facts.proofs.Maps.{into_map, from_map}
use Rattle.facts.proofs.Pairs.{pairs_head, pairs_tail}
use Rattle.dname.specs.Name.{Label}
use Rattle.dname.proofs.SameLemmas.{same_name_decides}
use Rattle.denial_records.specs.declared.record.Record.{Record}
use Rattle.cache_meaning.specs.declared.chain.Chain.{Chain as LentChain}
use Rattle.cache_meaning.specs.declared.chain.Chain.TheVariants.{Bare}
use Rattle.cache_meaning.specs.Held.{Chain, ZoneChain, same_zone_chain, chain_of, zone_of}
use Rattle.cache_meaning.specs.Lent.{lent_chain}
use Rattle.cache_meaning.proofs.StepLemmas.{two_places}
use Rattle.cache_meaning.proofs.ChainLemmas.{zone_chain_equal, zone_chain_itself}
use Rattle.held_laws.specs.HeldLaws.{EachListedOnce}
use Rattle.held_laws.proofs.ListLemmas.{SameMembers, found, is_found}
use Rattle.ordered_list.specs.Order.{IsInOrder}
use Rattle.zone_chains.specs.Zone.{OneChain, OneZone, chains_in}
use Rattle.zone_chains.proofs.ListLemmas.{AllPairs-nil, AllPairs-append}
use Rattle.record_store.specs.Gauges.{zone_count}
use Rattle.record_store.specs.Holding.{chains_of_zones, IsTied}
use Rattle.record_store.specs.Ranks.{apex_cmp}
use Rattle.record_store.proofs.DroppingLemmas.{chains_have}
use Rattle.record_store.proofs.ZoneChainLemmas.{AreWhole, each_here, less_differ}
use Rattle.record_store.proofs.ZoneLemmas.{some_of_flat}

-- ---- a test that decides

module _ {K : Type 0} {eq : K → K → Bool} (decides : (x y : K) → Decides (eq x y) (x ≡ y)) where
  decided : IsEquivalence eq
  decided = record {
    refl = λ x. (decides x x).1 refl;
    symm = λ x y. same_from_decides (eq x y) (eq y x) (decides x y) (λ is. sym ((decides y x).0 is), λ same. (decides y x).1 (sym same));
    congr = λ x y z is. ap (λ k. eq k z) ((decides x y).0 is);
  }

  member_there : (xs ys : List K) → ((x : K) → Contains xs x → Contains ys x) → (key : K) → is_member eq xs key ≡ true → is_member eq ys key ≡ true
  member_there xs ys more key is = let one = found (eq key) xs is in is_found (eq key) ys one.0 (more one.0 one.1) one.2

  member_alike : (xs ys : List K) → SameMembers xs ys → (key : K) → is_member eq xs key ≡ is_member eq ys key
  member_alike xs ys same key =
      same_from_decides (is_member eq xs key) (is_member eq ys key) (λ is. is, λ is. is)
      (member_there ys xs (λ x. (same x).1) key, member_there xs ys (λ x. (same x).0) key)

  unique_members : (xs : List K) → SameMembers xs (unique_keys eq xs)
  unique_members [] = λ x. (λ has. has, λ has. has)
  unique_members (y ∷ ys) = by (is_member eq ys y) refl (unique_members ys)
    where
      by : (b : Bool) → is_member eq ys y ≡ b → SameMembers ys (unique_keys eq ys) → SameMembers (y ∷ ys) (cond b (unique_keys eq ys) (y ∷ unique_keys eq ys))
      by true is rest x =
          let one = found (eq y) ys is in (
            λ has. ⊎_elim (λ same. (rest x).0 (subst (Contains ys) (sym ((decides y one.0).0 one.2) ∙ same) one.1)) (rest x).0 (here_or_there y ys x has),
            λ has. there y ys x ((rest x).1 has),
          )
      by false is rest x = (
        λ has. ⊎_elim (λ same. subst (Contains (y ∷ unique_keys eq ys)) same (here y (unique_keys eq ys))) (λ later. there y (unique_keys eq ys) x ((rest x).0 later)) (here_or_there y ys x has),
        λ has. ⊎_elim (λ same. subst (Contains (y ∷ ys)) same (here y ys)) (λ later. there y ys x ((rest x).1 later)) (here_or_there y (unique_keys eq ys) x has),
      )

  unique_apart : (xs : List K) → AllPairs (λ x y. x ≢ y) (unique_keys eq xs)
  unique_apart [] = AllPairs-nil (λ x y. x ≢ y)
  unique_apart (y ∷ ys) = by (is_member eq ys y) refl (unique_apart ys)
    where
      by : (b : Bool) → is_member eq ys y ≡ b → AllPairs (λ x z. x ≢ z) (unique_keys eq ys) → AllPairs (λ x z. x ≢ z) (cond b (unique_keys eq ys) (y ∷ unique_keys eq ys))
      by true is rest = rest
      by false is rest =
          AllPairs-cons (λ x z. x ≢ z) y (unique_keys eq ys) (all_by_member (λ z. y ≢ z) (unique_keys eq ys) (λ z has same.
          true≢false (sym (is_found (eq y) ys z ((unique_members ys z).1 has) ((decides y z).1 same)) ∙ is))) rest

  -- a list of keys, each once, with those of another
  counted : (keys xs : List K) → AllPairs (λ x y. x ≢ y) keys → SameMembers keys xs → length keys ≡ distinct_count eq xs
  counted keys xs apart same = length-from_keys decided keys xs (IsDistinct-from_AllPairs decides keys apart) (member_alike keys xs same)

  count_alike : (xs ys : List K) → SameMembers xs ys → distinct_count eq xs ≡ distinct_count eq ys
  count_alike xs ys same =
      counted (unique_keys eq xs) ys (unique_apart xs) (λ x. (λ has. (same x).0 ((unique_members xs x).1 has), λ has. (unique_members xs x).0 ((same x).1 has)))

-- ---- zones

apexes_apart : (zones : List OneZone) → IsInOrder apex_cmp zones → AllPairs (λ x y. x ≢ y) (map (λ (zone : OneZone). zone.apex) zones)
apexes_apart [] order = AllPairs-nil (λ x y. x ≢ y)
apexes_apart (first ∷ zones) order =
    AllPairs-cons (λ x y. x ≢ y) first.apex (map (λ (zone : OneZone). zone.apex) zones)
    (all_by_member (λ y. first.apex ≢ y) (map (λ (zone : OneZone). zone.apex) zones) (λ apex has same.
    (let one = from_map (λ (zone : OneZone). zone.apex) zones apex has in
    less_differ first one.0 (All-contains (λ y. apex_cmp first y ≡ Less) zones one.0 (pairs_head (λ x y. apex_cmp x y ≡ Less) first zones order) one.1) (same ∙ sym one.2))))
    (apexes_apart zones (pairs_tail (λ x y. apex_cmp x y ≡ Less) first zones order))

-- the zones are as many as are counted of the records
pub zones_counted : (goings sets : List Record) (zones : List OneZone) → IsTied goings sets zones → IsInOrder apex_cmp zones → length zones ≡ zone_count goings
zones_counted goings sets zones tied order =
    sym (length-map zones (λ (zone : OneZone). zone.apex))
    ∙ counted same_name_decides apexes (map zone_of goings) (apexes_apart zones order) same
  where
    apexes : List (List Label)
    apexes = map (λ (zone : OneZone). zone.apex) zones

    same : SameMembers apexes (map zone_of goings)
    same apex = (
      λ has. (let zone = from_map (λ (each : OneZone). each.apex) zones apex has in
          let item = tied.zone_used zone.0 zone.1 in
          subst (Contains (map zone_of goings)) (item.2 ∙ zone.2) (into_map zone_of goings item.0 item.1)),
      λ has. (let item = from_map zone_of goings apex has in
          let zone = tied.zone_listed item.0 item.1 in
          subst (Contains apexes) (zone.2 ∙ item.2) (into_map (λ (each : OneZone). each.apex) zones zone.0 zone.1)),
    )

-- the same records are of as many zones
pub zone_count_alike : (records other : List Record) → SameMembers records other → zone_count records ≡ zone_count other
zone_count_alike records other same =
    count_alike same_name_decides (map zone_of records) (map zone_of other) (λ apex. (of_zone records other (λ item. (same item).0) apex, of_zone other records (λ item. (same item).1) apex))
  where
    of_zone : (xs ys : List Record) → ((item : Record) → Contains xs item → Contains ys item) → (apex : List Label) → Contains (map zone_of xs) apex → Contains (map zone_of ys) apex
    of_zone xs ys more apex has =
        let item = from_map zone_of xs apex has in
        subst (Contains (map zone_of ys)) item.2 (into_map zone_of ys item.0 (more item.0 item.1))

-- ---- chains

once_of_zones : (zones : List OneZone) → IsInOrder apex_cmp zones → AreWhole zones → EachListedOnce (chains_of_zones zones)
once_of_zones [] order whole = AllPairs-nil (λ x y. same_zone_chain x y ≡ false)
once_of_zones (first ∷ zones) order whole =
    subst EachListedOnce (sym (flat_map-cons chains_in first zones))
    (AllPairs-append (λ x y. same_zone_chain x y ≡ false) (chains_in first) (chains_of_zones zones) (whole first (here first zones)).once
    (once_of_zones zones (pairs_tail (λ x y. apex_cmp x y ≡ Less) first zones order) later) across)
  where
    later : AreWhole zones
    later zone has = whole zone (there first zones zone has)

    across : (x y : ZoneChain) → Contains (chains_in first) x → Contains (chains_of_zones zones) y → same_zone_chain x y ≡ false
    across x y has has' =
        let zone = some_of_flat chains_in zones y has' in
        let above = All-contains (λ z. apex_cmp first z ≡ Less) zones zone.0 (pairs_head (λ a b. apex_cmp a b ≡ Less) first zones order) zone.1 in
        false_from_ne_true (same_zone_chain x y) (λ same.
        less_differ first zone.0 above (sym (each_here first (whole first (here first zones)) x has) ∙ (ap (λ (c : ZoneChain). c.zone) (zone_chain_equal x y same) ∙ each_here zone.0 (later zone.0 zone.1) y zone.2)))

chain_decides : (x y : ZoneChain) → Decides (same_zone_chain x y) (x ≡ y)
chain_decides x y = (zone_chain_equal x y, λ same. subst (λ z. same_zone_chain x z ≡ true) same (zone_chain_itself x))

-- each has a record of its own
no_more : (chains : List ZoneChain) (records : List Record) → EachListedOnce chains → ((chain : ZoneChain) → Contains chains chain → (item : Record) × Contains records item × (chain_of item ≡ Some chain)) → length chains ≤ length records
no_more [] records once each = omega arith
no_more (first ∷ rest) records once each =
    subst (λ n. length (first ∷ rest) ≤ n) (length-map records of_first)
    (length-le_from_is_member (decided chain_decides) (first ∷ rest) (map of_first records)
    (IsDistinct-from_AllPairs chain_decides (first ∷ rest) (λ i j d below within same. true≢false (sym ((chain_decides _ _).1 same) ∙ once i j d below within)))
    (member_there chain_decides (first ∷ rest) (map of_first records) there_too))
  where
    of_first : Record → ZoneChain
    of_first item = unwrap_or (chain_of item) first

    there_too : (chain : ZoneChain) → Contains (first ∷ rest) chain → Contains (map of_first records) chain
    there_too chain has =
        let one = each chain has in
        subst (Contains (map of_first records)) (ap (λ o. unwrap_or o first) one.2) (into_map of_first records one.0 one.1)

pub chains_within : (goings sets : List Record) (zones : List OneZone) → IsTied goings sets zones → IsInOrder apex_cmp zones → length (chains_of_zones zones) ≤ length goings
chains_within goings sets zones tied order = no_more (chains_of_zones zones) goings (once_of_zones zones order tied.whole) (chains_have goings sets zones tied)

-- ---- a walk over the zones

-- the chains of a zone, as they are lent
abbrev chain_at : OneZone → ℕ → Option Chain
chain_at zone place = slice_get (map (λ (each : ZoneChain). each.chain) (chains_in zone)) place

both_counted : (zone : OneZone) → length zone.chains ≤ 2 → option_len (chain_at zone 0) + option_len (chain_at zone 1) ≡ length zone.chains
both_counted zone two = by zone.chains two
  where
    by : (chains : List OneChain) → length chains ≤ 2 → option_len (chain_at (record { apex = zone.apex; chains = chains }) 0) + option_len (chain_at (record { apex = zone.apex; chains = chains }) 1) ≡ length chains
    by [] two = refl
    by (one ∷ []) two = refl
    by (one ∷ other ∷ []) two = refl
    by (one ∷ other ∷ third ∷ rest) two = absurd (omega (arith, two))

pub lent_counted : (zone : OneZone) (lent : List LentChain) (one other : ℕ) → map lent_chain lent ≡ chain_at zone 0 ∷ chain_at zone 1 ∷ [] → length zone.chains ≤ 2
    → one ≡ option_len (lent_chain (get_or lent 0 Bare)) → other ≡ option_len (lent_chain (get_or lent 1 Bare)) → one + other ≡ length zone.chains
lent_counted zone lent one other shown two is is' =
    let places = two_places lent_chain lent (chain_at zone 0) (chain_at zone 1) Bare shown in
    (λ i. (is ∙ ap option_len places.0) i + (is' ∙ ap option_len places.1) i) ∙ both_counted zone two

pub one_more_fits : (zone : OneZone) (rest left : List OneZone) (counted total : ℕ) → left ≡ zone ∷ rest → counted + length (chains_of_zones left) ≡ total → counted + length zone.chains ≤ total
one_more_fits zone rest left counted total is so_far =
    omega (arith, so_far, ap (λ l. length (chains_of_zones l)) is, ap length (flat_map-cons chains_in zone rest), length-append (chains_in zone) (chains_of_zones rest), length-map zone.chains (λ (each : OneChain). each.chain))
