-- What a chain is after a record comes or goes.
use Rattle.std.proofs.Common.{◌≡◌, ◌≢◌, ◌↔◌, Bool, true, false, not, true≢false, ◌⊎◌, inl, inr, ⊎_elim, List, [], ◌∷◌, get_or, filter, Contains, All, AllPairs, Some, refl, sym, ◌∙◌, ap, subst, arith, length, ◌+◌}
use Rattle.std.specs.Ordering.{nat_cmp, is_lt, is_eq}
use Rattle.std.specs.declared.cmp.Ordering.{Ordering}
use Rattle.std.specs.declared.cmp.Ordering.TheVariants.{Less, Equal, Greater}
use Rattle.std.specs.Cmp.{IsTotalOrder}
use Rattle.std.specs.Cmp.Lexicographic.{slice_cmp}
use Rattle.std.proofs.lemmas.Cmp.{nat_list_cmp_total, tied_itself}
use Rattle.std.proofs.lemmas.List.Elements.{All-nil, All-cons, All-contains, All-filter, Contains-get_or}
use Rattle.facts.proofs.Orderings.{less_not_equal}
use Rattle.facts.proofs.Pairs.{pairs_head, pairs_tail}
use Rattle.facts.proofs.Lists.{first_or_there, nothing_in}
use Rattle.facts.proofs.Filters.{filter_all}
use Rattle.dname.specs.Name.{Label, canonical_cmp}
use Rattle.dname.specs.Order.{canonical_total}
use Rattle.denial_records.specs.declared.record.Record.{Record}
use Rattle.cache_meaning.specs.Held.{ZoneChain, Chain, NsecChain, Nsec3Chain, chain_of, displaces}
use Rattle.range_index.specs.Arcs.{starts_before, starts_elsewhere}
use Rattle.facts.proofs.Filters.{kept, was_kept}
use Rattle.range_index.proofs.MemberLemmas.{members_with}
use Rattle.range_index.proofs.WithLemmas.{IsArcs-with, IsArcs-filter}
use Rattle.zone_chains.specs.Zone.{OneChain}
use Rattle.zone_chains.specs.Views.{nsec_start, nsec_end, nsec3_start, nsec3_end, apart_in, AreArcs, IsChain}
use Rattle.zone_chains.specs.Spans.{kind_by, records_by, chain_by}
use Rattle.zone_chains.specs.Changes.{records_with, records_without, alone, joined, parted}
use Rattle.zone_chains.specs.declared.chain_records.ChainSpans.{ChainSpans}
use Rattle.zone_chains.proofs.ListLemmas.{AllPairs-one}
use Rattle.zone_chains.proofs.ChainLemmas.{apart_is, not_true}

-- ---- a record alone

alone_arcs : (kind : Chain) (new : Record) → AreArcs kind (new ∷ [])
alone_arcs NsecChain new = record { in_order = AllPairs-one (λ span other. starts_before canonical_cmp nsec_start other span ≡ true) new; apart = λ i j d below within. absurd (omega arith) }
alone_arcs (Nsec3Chain parameters) new = record { in_order = λ i j d below within. absurd (omega arith); apart = λ i j d below within. absurd (omega arith) }

pub alone_is : (chain : ZoneChain) (new : Record) → chain_of new ≡ Some chain → IsChain (alone chain new)
alone_is chain new of_it = record {
  of_chain = All-cons (λ item. chain_of item ≡ Some chain) new [] of_it (All-nil (λ item. chain_of item ≡ Some chain));
  arcs = alone_arcs chain.chain new;
}

-- ---- one more

with_arcs : (kind : Chain) (new : Record) (records : List Record) → AreArcs kind records → AreArcs kind (records_with kind new records)
with_arcs NsecChain new records arcs = IsArcs-with canonical_cmp canonical_total nsec_start nsec_end new records arcs
with_arcs (Nsec3Chain parameters) new records arcs = IsArcs-with (slice_cmp nat_cmp) nat_list_cmp_total nsec3_start nsec3_end new records arcs

with_has : (kind : Chain) (new : Record) (records : List Record) (r : Record) → Contains (records_with kind new records) r ↔ ((r ≡ new) ⊎ (Contains records r × (apart_in kind new r ≡ true)))
with_has NsecChain new records r = members_with canonical_cmp nsec_start nsec_end new records r
with_has (Nsec3Chain parameters) new records r = members_with (slice_cmp nat_cmp) nsec3_start nsec3_end new records r

pub joined_is : (each : OneChain) (new : Record) → IsChain each → chain_of new ≡ Some each.chain → IsChain (joined new each)
joined_is each new it of_it = let made : List Record = records_with each.chain.chain new each.records in record {
  of_chain = λ k d within. by (get_or made k d) ((with_has each.chain.chain new each.records (get_or made k d)).0 (Contains-get_or made k d within));
  arcs = with_arcs each.chain.chain new each.records it.arcs;
}
  where
    by : (r : Record) → (r ≡ new) ⊎ (Contains each.records r × (apart_in each.chain.chain new r ≡ true)) → chain_of r ≡ Some each.chain
    by r (inl same) = ap chain_of same ∙ of_it
    by r (inr old) = All-contains (λ item. chain_of item ≡ Some each.chain) each.records r it.of_chain old.0

pub joined_has : (each : OneChain) (new : Record) → IsChain each → chain_of new ≡ Some each.chain → (r : Record) → Contains (joined new each).records r ↔ ((r ≡ new) ⊎ (Contains each.records r × (displaces new r ≡ false)))
joined_has each new it of_it r = (λ h. there (has.0 h), λ h. has.1 (from h))
  where
    has : Contains (records_with each.chain.chain new each.records) r ↔ ((r ≡ new) ⊎ (Contains each.records r × (apart_in each.chain.chain new r ≡ true)))
    has = with_has each.chain.chain new each.records r

    is_apart : Contains each.records r → apart_in each.chain.chain new r ≡ not (displaces new r)
    is_apart old = apart_is each.chain.zone each.chain.chain new r of_it (All-contains (λ item. chain_of item ≡ Some each.chain) each.records r it.of_chain old)

    there : (r ≡ new) ⊎ (Contains each.records r × (apart_in each.chain.chain new r ≡ true)) → (r ≡ new) ⊎ (Contains each.records r × (displaces new r ≡ false))
    there (inl same) = inl same
    there (inr old) = inr (old.0, not_true _ _ (is_apart old.0) old.1)

    from : (r ≡ new) ⊎ (Contains each.records r × (displaces new r ≡ false)) → (r ≡ new) ⊎ (Contains each.records r × (apart_in each.chain.chain new r ≡ true))
    from (inl same) = inl same
    from (inr old) = inr (old.0, is_apart old.0 ∙ ap not old.1)

-- ---- one less

pub parted_is : (each : OneChain) (item : Record) → IsChain each → IsChain (parted item each)
parted_is each item it = by each.chain.chain it.of_chain it.arcs
  where
    by : (kind : Chain) → All (λ r. chain_of r ≡ Some (record { zone = each.chain.zone; chain = kind })) each.records → AreArcs kind each.records → IsChain (parted item (record { chain = record { zone = each.chain.zone; chain = kind }; records = each.records }))
    by NsecChain all arcs = record {
      of_chain = All-filter (starts_elsewhere canonical_cmp nsec_start (nsec_start item)) (λ r. chain_of r ≡ Some (record { zone = each.chain.zone; chain = NsecChain })) each.records all;
      arcs = IsArcs-filter canonical_cmp nsec_start nsec_end (starts_elsewhere canonical_cmp nsec_start (nsec_start item)) each.records arcs;
    }
    by (Nsec3Chain parameters) all arcs = record {
      of_chain = All-filter (starts_elsewhere (slice_cmp nat_cmp) nsec3_start (nsec3_start item)) (λ r. chain_of r ≡ Some (record { zone = each.chain.zone; chain = Nsec3Chain parameters })) each.records all;
      arcs = IsArcs-filter (slice_cmp nat_cmp) nsec3_start nsec3_end (starts_elsewhere (slice_cmp nat_cmp) nsec3_start (nsec3_start item)) each.records arcs;
    }

lt_or_eq : (r : Ordering) → is_lt r ≡ true → is_eq r ≡ true → ⊥
lt_or_eq Less lt eq = true≢false (sym eq)
lt_or_eq Equal lt eq = true≢false (sym lt)
lt_or_eq Greater lt eq = true≢false (sym eq)

module _ {S K : Type 0} (cmp : K → K → Ordering) (total : IsTotalOrder cmp) (start : S → K) where
  turned : (a b : K) → is_eq (cmp a b) ≡ true → is_eq (cmp b a) ≡ true
  turned a b eq = grind (arith, total)

  -- of spans in order of start, one starts at a key
  one_start : (xs : List S) → AllPairs (λ span other. starts_before cmp start other span ≡ true) xs → (x y : S) → Contains xs x → Contains xs y → is_eq (cmp (start x) (start y)) ≡ true → x ≡ y
  one_start [] order x y has has' eq = absurd (nothing_in x has)
  one_start (z ∷ xs) order x y has has' eq = by (first_or_there z xs x has) (first_or_there z xs y has') (λ h h'. one_start xs (pairs_tail (λ span other. starts_before cmp start other span ≡ true) z xs order) x y h h' eq)
    where
      behind : (w : S) → Contains xs w → is_lt (cmp (start z) (start w)) ≡ true
      behind w h = All-contains (λ other. starts_before cmp start other z ≡ true) xs w (pairs_head (λ span other. starts_before cmp start other span ≡ true) z xs order) h

      by : (x ≡ z) ⊎ Contains xs x → (y ≡ z) ⊎ Contains xs y → (Contains xs x → Contains xs y → x ≡ y) → x ≡ y
      by (inl same) (inl same') rest = same ∙ sym same'
      by (inl same) (inr h') rest = absurd (lt_or_eq (cmp (start x) (start y)) (subst (λ w. is_lt (cmp (start w) (start y)) ≡ true) (sym same) (behind y h')) eq)
      by (inr h) (inl same') rest = absurd (lt_or_eq (cmp (start y) (start x)) (subst (λ w. is_lt (cmp (start w) (start x)) ≡ true) (sym same') (behind x h)) (turned (start x) (start y) eq))
      by (inr h) (inr h') rest = rest h h'

  elsewhere : (xs : List S) → AllPairs (λ span other. starts_before cmp start other span ≡ true) xs → (item : S) → Contains xs item → (r : S) → Contains (filter (starts_elsewhere cmp start (start item)) xs) r ↔ (Contains xs r × (r ≢ item))
  elsewhere xs order item has r = let test : S → Bool = starts_elsewhere cmp start (start item) in (λ h. ((was_kept test xs r h).0, λ same. true≢false (sym (was_kept test xs r h).1 ∙ itself same)), λ h. kept test xs r h.0 (by (is_eq (cmp (start r) (start item))) refl h.0 h.1))
    where
      itself : r ≡ item → not (is_eq (cmp (start r) (start item))) ≡ false
      itself same = ap (λ w. not (is_eq (cmp (start w) (start item)))) same ∙ ap (λ o. not (is_eq o)) (tied_itself total (start item))

      by : (b : Bool) → is_eq (cmp (start r) (start item)) ≡ b → Contains xs r → (r ≢ item) → not (is_eq (cmp (start r) (start item))) ≡ true
      by true eq h other = absurd (other (one_start xs order r item h has eq))
      by false eq h other = ap not eq

module _ {S K : Type 0} (cmp : K → K → Ordering) (total : IsTotalOrder cmp) (start : S → K) where
  either_side : (a b : K) → is_lt (cmp a b) ≡ true → not (is_eq (cmp b a)) ≡ true
  either_side a b lt = grind (arith, total)

  count_elsewhere : (xs : List S) → AllPairs (λ span other. starts_before cmp start other span ≡ true) xs → (item : S) → Contains xs item → length (filter (starts_elsewhere cmp start (start item)) xs) + 1 ≡ length xs
  count_elsewhere [] order item has = absurd (nothing_in item has)
  count_elsewhere (z ∷ xs) order item has =
      ⊎_elim at (λ h. later h (count_elsewhere xs (pairs_tail (λ span other. starts_before cmp start other span ≡ true) z xs order) item h)) (first_or_there z xs item has)
    where
      behind : (w : S) → Contains xs w → is_lt (cmp (start z) (start w)) ≡ true
      behind w h = All-contains (λ other. starts_before cmp start other z ≡ true) xs w (pairs_head (λ span other. starts_before cmp start other span ≡ true) z xs order) h

      at : item ≡ z → length (filter (starts_elsewhere cmp start (start item)) (z ∷ xs)) + 1 ≡ length (z ∷ xs)
      at same =
          let fails : starts_elsewhere cmp start (start item) z ≡ false = ap (λ w. not (is_eq (cmp (start z) (start w)))) same ∙ ap (λ o. not (is_eq o)) (tied_itself total (start z)) in
          let all : filter (starts_elsewhere cmp start (start item)) xs ≡ xs =
          filter_all (starts_elsewhere cmp start (start item)) xs (λ k d within.
          ap (λ w. not (is_eq (cmp (start (get_or xs k d)) (start w)))) same ∙ either_side (start z) (start (get_or xs k d)) (behind (get_or xs k d) (Contains-get_or xs k d within))) in
          rw (fails, all) (omega arith)

      later : Contains xs item → length (filter (starts_elsewhere cmp start (start item)) xs) + 1 ≡ length xs → length (filter (starts_elsewhere cmp start (start item)) (z ∷ xs)) + 1 ≡ length (z ∷ xs)
      later h rest =
          let passes : starts_elsewhere cmp start (start item) z ≡ true = less_not_equal (cmp (start z) (start item)) (behind item h) in
          rw passes (omega arith)

pub parted_count : (each : OneChain) (item : Record) → IsChain each → Contains each.records item → length (parted item each).records + 1 ≡ length each.records
parted_count each item it has = by each.chain.chain it.arcs
  where
    by : (kind : Chain) → AreArcs kind each.records → length (records_without kind item each.records) + 1 ≡ length each.records
    by NsecChain arcs = count_elsewhere canonical_cmp canonical_total nsec_start each.records arcs.in_order item has
    by (Nsec3Chain parameters) arcs = count_elsewhere (slice_cmp nat_cmp) nat_list_cmp_total nsec3_start each.records arcs.in_order item has

pub parted_has : (each : OneChain) (item : Record) → IsChain each → Contains each.records item → (r : Record) → Contains (parted item each).records r ↔ (Contains each.records r × (r ≢ item))
parted_has each item it has r = by each.chain.chain it.arcs
  where
    by : (kind : Chain) → AreArcs kind each.records → Contains (records_without kind item each.records) r ↔ (Contains each.records r × (r ≢ item))
    by NsecChain arcs = elsewhere canonical_cmp canonical_total nsec_start each.records arcs.in_order item has r
    by (Nsec3Chain parameters) arcs = elsewhere (slice_cmp nat_cmp) nat_list_cmp_total nsec3_start each.records arcs.in_order item has r

-- ---- by the code's parts

pub chain_by-with : (zone zone' : List Label) (spans spans' : ChainSpans) (value : OneChain) (new : Record) → chain_by zone spans ≡ value → IsChain (chain_by zone spans) → chain_of new ≡ Some value.chain → zone' ≡ zone → kind_by spans' ≡ kind_by spans → records_by spans' ≡ records_with (kind_by spans) new (records_by spans) → IsChain (chain_by zone' spans')
chain_by-with zone zone' spans spans' value new is it of_it zones kinds records =
    subst IsChain (λ i. record { chain = record { zone = sym zones i; chain = sym kinds i }; records = sym records i })
    (joined_is (chain_by zone spans) new it (of_it ∙ ap (λ (v : OneChain). Some v.chain) (sym is)))

pub chain_by-without : (zone zone' : List Label) (spans spans' : ChainSpans) (item : Record) → IsChain (chain_by zone spans) → zone' ≡ zone → kind_by spans' ≡ kind_by spans → records_by spans' ≡ records_without (kind_by spans) item (records_by spans) → IsChain (chain_by zone' spans')
chain_by-without zone zone' spans spans' item it zones kinds records =
    subst IsChain (λ i. record { chain = record { zone = sym zones i; chain = sym kinds i }; records = sym records i })
    (parted_is (chain_by zone spans) item it)
