-- The order of keys keeps what is held, after each batch too.
use Rattle.std.proofs.Common.{◌≡◌, ◌≤◌, Bool, false, List, length, refl, sym, ◌∙◌, subst, arith, [], ◌∷◌, ◌++◌, All, get_or, filter}
use Rattle.std.specs.Ordering.{is_gt}
use Rattle.std.proofs.lemmas.List.Kept.{AllPairs-filter}
use Rattle.denial_records.specs.declared.batch.Batch.{Batch}
use Rattle.cache_meaning.specs.Held.{Held, ZoneChain, key_cmp, same_zone_chain, nothing_held, most_records, held_after, held_of}
use Rattle.cache_meaning.specs.Zones.{TwoChains}
use Rattle.cache_meaning.proofs.ChainLemmas.{other_way}
use Rattle.held_laws.specs.HeldLaws.{IsUsableAt, IsApart, NoneDisplaces, EachListedOnce, EachChainHasARecord, EachRecordIsListed, IsReordered}
use Rattle.held_laws.specs.KeyOrder.{sorted, zone_cmp, IsInKeyOrder, IsInZoneOrder, in_key_order, kept_after, kept_of}
use Rattle.held_laws.proofs.ApartLemmas.{after_apart}
use Rattle.held_laws.proofs.KeptLemmas.{fold_keeps, two_chains}
use Rattle.held_laws.proofs.KeyOrderLemmas.{sorted_in_key_order, sorted_alike, length_alike, grouped_is, grouped_keeps, grouped_in_zone_order, grouped_alike}
use Rattle.held_laws.proofs.ListedLemmas.{all_are_listed}
use Rattle.held_laws.proofs.OnceLemmas.{after_once}
use Rattle.held_laws.proofs.RankLemmas.{all_within}
use Rattle.held_laws.proofs.ReorderLemmas.{alike_filtered, Alike, fold_both, list_alike, reordered, same_listed, after_alike}
use Rattle.held_laws.proofs.SortLemmas.{sorted_members, sorted_pairs}
use Rattle.held_laws.proofs.UsableLemmas.{last_usable}
use Rattle.std.proofs.lemmas.List.Elements.{All-contains, Contains-get_or}

-- ---- one state

pub key_order_same : (held : Held) → IsReordered held (in_key_order held)
key_order_same held = reordered held (in_key_order held) (sorted_members key_cmp held.records) (λ zone. sym (grouped_keeps held.chains zone))

pub apart_in_key_order : (held : Held) → NoneDisplaces held.records → NoneDisplaces (in_key_order held).records
apart_in_key_order held = sorted_pairs key_cmp IsApart (λ one other apart. (apart.1, apart.0)) held.records

pub once_in_key_order : (held : Held) → EachListedOnce held.chains → EachListedOnce (in_key_order held).chains
once_in_key_order held = sorted_pairs zone_cmp (λ one other. same_zone_chain one other ≡ false) (λ one other apart. other_way other one ∙ apart) held.chains

pub two_in_key_order : (held : Held) → TwoChains held → TwoChains (in_key_order held)
two_in_key_order held two zone = subst (λ l. length l ≤ 2) ((key_order_same held).chains zone) (two zone)

-- states that hold the same are one in the order of keys
pub one_in_key_order : (held other : Held) → NoneDisplaces held.records → NoneDisplaces other.records → IsReordered held other → in_key_order held ≡ in_key_order other
one_in_key_order held other apart apart' order =
    λ i. record {
      records = sorted_alike held.records other.records apart apart' order.records i;
      chains = grouped_alike held.chains other.chains (list_alike held other order) i;
    }

-- chains may be filtered before they are grouped, or after
pub grouped_filtered : (p : ZoneChain → Bool) (xs : List ZoneChain) → sorted zone_cmp (filter p xs) ≡ filter p (sorted zone_cmp xs)
grouped_filtered p xs =
    grouped_is (filter p xs) (filter p (sorted zone_cmp xs)) (AllPairs-filter (λ one other. is_gt (zone_cmp one other) ≡ false) p (sorted zone_cmp xs) (grouped_in_zone_order xs))
    (alike_filtered p p (λ chain. refl) xs (sorted zone_cmp xs) (λ zone. sym (grouped_keeps xs zone)))

-- ---- after each batch

pub through : (held other third : Held) → IsReordered held other → IsReordered other third → IsReordered held third
through held other third order order' = record {
  records = λ item. (λ has. (order'.records item).0 ((order.records item).0 has), λ has. (order.records item).1 ((order'.records item).1 has));
  chains = λ zone. order.chains zone ∙ order'.chains zone;
}

pub all_alike : (batches : List Batch) → Alike (held_of batches) (kept_of batches)
all_alike batches =
    fold_both Alike held_after kept_after (λ held kept batch alike.
    let after = after_alike held kept batch alike in
    record {
      apart = after.apart;
      others_apart = apart_in_key_order (held_after kept batch) after.others_apart;
      order = through _ _ _ after.order (key_order_same (held_after kept batch));
    }) nothing_held nothing_held batches (record {
      apart = λ i j d below within. absurd (omega arith);
      others_apart = λ i j d below within. absurd (omega arith);
      order = record { records = λ item. (λ has. has, λ has. has); chains = λ zone. refl };
    })

kept_keeps : (P : Held → Type 0) → P nothing_held → ((held : Held) (batch : Batch) → P held → P (held_after held batch)) → ((held : Held) → P held → P (in_key_order held)) → (batches : List Batch) → P (kept_of batches)
kept_keeps P first keeps ordered batches = fold_keeps P kept_after (λ held batch holds. ordered (held_after held batch) (keeps held batch holds)) nothing_held batches first

pub kept_once : (batches : List Batch) → EachListedOnce (kept_of batches).chains
kept_once = kept_keeps (λ (h : Held). EachListedOnce h.chains) (λ i j d below within. absurd (omega arith)) after_once once_in_key_order

pub kept_in_order : (batches : List Batch) → NoneDisplaces (kept_of batches).records × IsInKeyOrder (kept_of batches).records
kept_in_order batches =
    fold_keeps (λ (h : Held). NoneDisplaces h.records × IsInKeyOrder h.records) kept_after (λ held batch h.
    let apart = after_apart held batch h.0 in (apart_in_key_order (held_after held batch) apart, sorted_in_key_order (held_after held batch).records apart))
    nothing_held batches (λ i j d below within. absurd (omega arith), λ i j d below within. absurd (omega arith))

pub kept_in_zones : (batches : List Batch) → IsInZoneOrder (kept_of batches).chains
kept_in_zones batches =
    fold_keeps (λ (h : Held). IsInZoneOrder h.chains) kept_after (λ held batch h. grouped_in_zone_order (held_after held batch).chains)
    nothing_held batches (λ i j d below within. absurd (omega arith))

pub kept_two : (batches : List Batch) → TwoChains (kept_of batches)
kept_two batches zone = subst (λ l. length l ≤ 2) ((all_alike batches).order.chains zone) (two_chains batches zone)

pub kept_has_record : (batches : List Batch) → EachChainHasARecord (kept_of batches)
kept_has_record batches chain listed =
    let order = (all_alike batches).order in
    let one = (all_are_listed batches).has_record chain ((same_listed _ _ (list_alike _ _ order) chain).1 listed) in
    (one.0, (order.records one.0).0 one.1, one.2)

pub kept_is_listed : (batches : List Batch) → EachRecordIsListed (kept_of batches)
kept_is_listed batches item chain has is =
    let order = (all_alike batches).order in
    (same_listed _ _ (list_alike _ _ order) chain).0 ((all_are_listed batches).is_listed item chain ((order.records item).1 has) is)

pub kept_within : (batches : List Batch) → length (kept_of batches).records ≤ most_records
kept_within batches =
    let alike = all_alike batches in
    subst (λ n. n ≤ most_records) (length_alike _ _ alike.apart alike.others_apart alike.order.records) (all_within batches)

pub kept_usable : (batches : List Batch) (batch : Batch) → All (IsUsableAt batch.now) batch.records → All (IsUsableAt batch.now) (kept_of (batches ++ batch ∷ [])).records
kept_usable batches batch each k d within =
    let kept = (kept_of (batches ++ batch ∷ [])).records in
    All-contains (IsUsableAt batch.now) (held_of (batches ++ batch ∷ [])).records (get_or kept k d) (last_usable batches batch each)
    (((all_alike (batches ++ batch ∷ [])).order.records (get_or kept k d)).1 (Contains-get_or kept k d within))
