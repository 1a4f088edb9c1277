-- The chains that a list of zones has, zone by zone.
use Rattle.std.proofs.Common.{◌≡◌, ◌⊎◌, inl, inr, ◌<◌, zero, suc, Bool, true, false, true≢false, List, [], ◌∷◌, ◌++◌, cond, length, map, filter, Contains, All, refl, sym, ◌∙◌, ap, subst, arith}
use Rattle.std.specs.List.{list_any}
use Rattle.std.proofs.lemmas.Bool.Decides.{Decides-ltb}
use Rattle.std.proofs.lemmas.List.{append-nil}
use Rattle.std.proofs.lemmas.List.Elements.{filter-append, All-contains}
use Rattle.std.proofs.lemmas.List.Concat.{flat_map-cons}
use Rattle.dname.specs.Name.{Label}
use Rattle.dname.specs.Order.{canonical_same}
use Rattle.denial_records.specs.declared.record.Record.{Record}
use Rattle.cache_meaning.specs.Held.{ZoneChain, is_of_chain, chains_held}
use Rattle.held_laws.proofs.KeyOrderLemmas.{in_zone}
use Rattle.held_laws.proofs.ListLemmas.{found, is_found}
use Rattle.dname.proofs.SameLemmas.{name_equal, same_names}
use Rattle.cache_meaning.proofs.ChainLemmas.{of_chain, is_of_it as is_of}
use Rattle.ordered_list.specs.Order.{IsInOrder}
use Rattle.std.specs.declared.cmp.Ordering.TheVariants.{Less}
use Rattle.std.proofs.lemmas.Bool.{false_from_ne_true}
use Rattle.facts.proofs.Filters.{filter_none, filter_all}
use Rattle.facts.proofs.Pairs.{pairs_head, pairs_tail}
use Rattle.facts.proofs.Lists.{here, there, here_or_there, nothing_in, all_by_member}
use Rattle.zone_chains.specs.Zone.{OneChain, OneZone, chains_in, IsOneZone, has_records}
use Rattle.record_store.specs.Holding.{chains_of_zones, IsZoneOf}
use Rattle.record_store.specs.Ranks.{apex_cmp}
use Rattle.record_store.proofs.ZoneLemmas.{chain_there, chain_its, chain_all}

abbrev pub AreWhole : List OneZone → Type 0
AreWhole zones = (zone : OneZone) → Contains zones zone → IsOneZone zone

-- ---- of one zone

pub each_here : (zone : OneZone) → IsOneZone zone → (chain : ZoneChain) → Contains (chains_in zone) chain → chain.zone ≡ zone.apex
each_here zone is chain has = All-contains (λ (c : ZoneChain). c.zone ≡ zone.apex) (chains_in zone) chain is.here has

pub zone_here : (zone : OneZone) → IsOneZone zone → filter (in_zone zone.apex) (chains_in zone) ≡ chains_in zone
zone_here zone is =
    filter_all (in_zone zone.apex) (chains_in zone)
    (all_by_member (λ c. in_zone zone.apex c ≡ true) (chains_in zone) (λ chain has. same_names chain.zone zone.apex (each_here zone is chain has)))

pub zone_elsewhere : (zone : OneZone) → IsOneZone zone → (apex : List Label) → (zone.apex ≡ apex → ⊥) → filter (in_zone apex) (chains_in zone) ≡ []
zone_elsewhere zone is apex differ =
    filter_none (in_zone apex) (chains_in zone)
    (all_by_member (λ c. in_zone apex c ≡ false) (chains_in zone) (λ chain has. false_from_ne_true (in_zone apex chain) (λ same. differ (sym (each_here zone is chain has) ∙ name_equal chain.zone apex same))))

-- ---- of all

pub none_of_zones : (apex : List Label) (zones : List OneZone) → AreWhole zones → ((zone : OneZone) → Contains zones zone → zone.apex ≡ apex → ⊥) → filter (in_zone apex) (chains_of_zones zones) ≡ []
none_of_zones apex [] whole none = refl
none_of_zones apex (zone ∷ zones) whole none =
    ap (filter (in_zone apex)) (flat_map-cons chains_in zone zones)
    ∙ filter-append (in_zone apex) (chains_in zone) (chains_of_zones zones)
    ∙ ap (λ l. l ++ filter (in_zone apex) (chains_of_zones zones)) (zone_elsewhere zone (whole zone (here zone zones)) apex (none zone (here zone zones)))
    ∙ none_of_zones apex zones (λ z has. whole z (there zone zones z has)) (λ z has. none z (there zone zones z has))

pub less_differ : (one other : OneZone) → apex_cmp one other ≡ Less → one.apex ≡ other.apex → ⊥
less_differ one other less same = cc (less, canonical_same one.apex other.apex same)

pub one_of_zones : (zones : List OneZone) → IsInOrder apex_cmp zones → AreWhole zones → (zone : OneZone) → Contains zones zone → filter (in_zone zone.apex) (chains_of_zones zones) ≡ chains_in zone
one_of_zones [] order whole zone has = absurd (nothing_in zone has)
one_of_zones (first ∷ zones) order whole zone has =
    ap (filter (in_zone zone.apex)) (flat_map-cons chains_in first zones)
    ∙ filter-append (in_zone zone.apex) (chains_in first) (chains_of_zones zones)
    ∙ by (here_or_there first zones zone has) (one_of_zones zones (pairs_tail (λ x y. apex_cmp x y ≡ Less) first zones order) rest_whole zone)
  where
    rest_whole : AreWhole zones
    rest_whole z later = whole z (there first zones z later)

    above : (z : OneZone) → Contains zones z → first.apex ≡ z.apex → ⊥
    above z later = less_differ first z (All-contains (λ x. apex_cmp first x ≡ Less) zones z (pairs_head (λ x y. apex_cmp x y ≡ Less) first zones order) later)

    by : (first ≡ zone) ⊎ Contains zones zone → (Contains zones zone → filter (in_zone zone.apex) (chains_of_zones zones) ≡ chains_in zone) → filter (in_zone zone.apex) (chains_in first) ++ filter (in_zone zone.apex) (chains_of_zones zones) ≡ chains_in zone
    by (inl same) rest =
        subst (λ (z : OneZone). filter (in_zone z.apex) (chains_in first) ++ filter (in_zone z.apex) (chains_of_zones zones) ≡ chains_in z) same
        (ap (λ l. l ++ filter (in_zone first.apex) (chains_of_zones zones)) (zone_here first (whole first (here first zones)))
        ∙ ap (λ l. chains_in first ++ l) (none_of_zones first.apex zones rest_whole (λ z later same_apex. above z later (sym same_apex)))
        ∙ append-nil (chains_in first))
    by (inr later) rest =
        ap (λ l. l ++ filter (in_zone zone.apex) (chains_of_zones zones)) (zone_elsewhere first (whole first (here first zones)) zone.apex (above zone later))
        ∙ rest later

-- ---- a chain is held where it has a record

module _ (goings : List Record) (zone : OneZone) (is : IsOneZone zone) (its : IsZoneOf goings zone) where
  pub chain_held : (each : OneChain) → Contains zone.chains each → 0 < length each.records → list_any (is_of_chain each.chain) goings ≡ true
  chain_held each listed some = by each.records refl some
    where
      by : (records : List Record) → each.records ≡ records → 0 < length records → list_any (is_of_chain each.chain) goings ≡ true
      by [] same none = absurd (omega (arith, none))
      by (item ∷ items) same some' =
          let has = subst (λ l. Contains l item) (sym same) (here item items) in
          is_found (is_of_chain each.chain) goings item (chain_there goings zone is its each listed item has) (is_of each.chain item (chain_its goings zone is its each listed item has))

  chain_not_held : (each : OneChain) → Contains zone.chains each → list_any (is_of_chain each.chain) goings ≡ true → 0 < length each.records
  chain_not_held each listed any =
      let some = found (is_of_chain each.chain) goings any in
      let has = chain_all goings zone is its each listed some.0 some.1 (of_chain each.chain some.0 some.2) in
      omega (arith, has.1)

  has_is_held : (each : OneChain) → Contains zone.chains each → has_records each ≡ list_any (is_of_chain each.chain) goings
  has_is_held each listed = by (has_records each) (list_any (is_of_chain each.chain) goings) refl refl
    where
      by : (b d : Bool) → has_records each ≡ b → list_any (is_of_chain each.chain) goings ≡ d → b ≡ d
      by true true is' are = refl
      by false false is' are = refl
      by true false is' are = absurd (true≢false (sym (chain_held each listed ((Decides-ltb _ _).0 is')) ∙ are))
      by false true is' are = absurd (true≢false (sym ((Decides-ltb _ _).1 (chain_not_held each listed are)) ∙ is'))

  pub chains_all_held : All (λ (each : OneChain). 0 < length each.records) zone.chains → chains_held goings (chains_in zone) ≡ chains_in zone
  chains_all_held used =
      filter_all (λ chain. list_any (is_of_chain chain) goings) (chains_in zone) (all_chains zone.chains (λ each listed. chain_held each listed (All-contains (λ (e : OneChain). 0 < length e.records) zone.chains each used listed)))
    where
      all_chains : (chains : List OneChain) → ((each : OneChain) → Contains chains each → list_any (is_of_chain each.chain) goings ≡ true) → All (λ chain. list_any (is_of_chain chain) goings ≡ true) (map (λ (each : OneChain). each.chain) chains)
      all_chains [] each i d within = absurd (omega (arith, within))
      all_chains (c ∷ cs) each zero d within = each c (here c cs)
      all_chains (c ∷ cs) each (suc i) d within = all_chains cs (λ e later. each e (there c cs e later)) i d (omega (arith, within))

  pub chains_left : map (λ (each : OneChain). each.chain) (filter has_records zone.chains) ≡ chains_held goings (chains_in zone)
  chains_left = same zone.chains has_is_held
    where
      same : (chains : List OneChain) → ((each : OneChain) → Contains chains each → has_records each ≡ list_any (is_of_chain each.chain) goings) → map (λ (each : OneChain). each.chain) (filter has_records chains) ≡ filter (λ chain. list_any (is_of_chain chain) goings) (map (λ (each : OneChain). each.chain) chains)
      same [] agree = refl
      same (c ∷ cs) agree = by (has_records c) refl (same cs (λ e later. agree e (there c cs e later)))
        where
          rest : List ZoneChain
          rest = filter (λ chain. list_any (is_of_chain chain) goings) (map (λ (each : OneChain). each.chain) cs)

          by : (b : Bool) → has_records c ≡ b → map (λ (each : OneChain). each.chain) (filter has_records cs) ≡ rest → map (λ (each : OneChain). each.chain) (cond b (c ∷ filter has_records cs) (filter has_records cs)) ≡ cond (list_any (is_of_chain c.chain) goings) (c.chain ∷ rest) rest
          by true is' h = subst (λ b. c.chain ∷ map (λ (each : OneChain). each.chain) (filter has_records cs) ≡ cond b (c.chain ∷ rest) rest) (sym is' ∙ agree c (here c cs)) (ap (λ l. c.chain ∷ l) h)
          by false is' h = subst (λ b. map (λ (each : OneChain). each.chain) (filter has_records cs) ≡ cond b (c.chain ∷ rest) rest) (sym is' ∙ agree c (here c cs)) h
