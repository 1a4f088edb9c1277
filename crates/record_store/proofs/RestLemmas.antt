-- What is left where the first records go, and their chains.
use Rattle.std.proofs.Common.{◌≡◌, ℕ, ◌+◌, ◌<◌, ◌≤◌, zero, suc, Bool, true, false, not, nat_lt, List, [], ◌∷◌, ◌++◌, cond, length, get_or, take, drop, filter, count_by, All, Contains, refl, sym, ◌∙◌, ap, subst, arith}
use Rattle.std.specs.List.{AllPairs, list_any}
use Rattle.std.specs.Cmp.{IsTotalOrder}
use Rattle.std.specs.Ordering.{is_lt, ordering_reverse}
use Rattle.std.specs.declared.cmp.Ordering.{Ordering}
use Rattle.std.proofs.lemmas.Bool.Decides.{Decides-ltb}
use Rattle.std.proofs.lemmas.Cmp.{tied_itself}
use Rattle.std.proofs.lemmas.List.{drop-drop, get_or-drop, get_or-take, length-drop, length-take, take-append-drop}
use Rattle.std.proofs.lemmas.List.Elements.{Contains-get_or, filter-append}
use Rattle.std.proofs.lemmas.List.Sums.{length-filter}
use Rattle.facts.proofs.Filters.{filter_all, filter_none}
use Rattle.facts.proofs.Lists.{there}
use Rattle.facts.proofs.Pairs.{pairs_tail}
use Rattle.denial_records.specs.declared.record.Record.{Record}
use Rattle.cache_meaning.specs.Held.{Held, ZoneChain, is_of_chain, chains_held, held_where}
use Rattle.held_laws.specs.HeldLaws.{IsApart, NoneDisplaces, EachChainHasARecord, IsReordered}
use Rattle.held_laws.proofs.KeyOrderLemmas.{in_zone}
use Rattle.held_laws.proofs.ListLemmas.{found, is_found}
use Rattle.cache_meaning.proofs.ChainLemmas.{is_of_it as is_of}
use Rattle.held_laws.proofs.OrderedLemmas.{through}
use Rattle.held_laws.proofs.ReorderLemmas.{alike_filtered, list_alike, reordered}
use Rattle.ordered_list.specs.Order.{IsInOrder}
use Rattle.ordered_list.proofs.OrderLemmas.{below_rest, rest_in_order}
use Rattle.record_store.specs.Holding.{held_rest, rest_of}

-- ---- two states that hold the same

pub back : (held other : Held) → IsReordered held other → IsReordered other held
back held other order = record { records = λ item. ((order.records item).1, (order.records item).0); chains = λ zone. sym (order.chains zone) }

-- ---- a part of the records, and of it a part

filter_through : {X : Type 0} (p q : X → Bool) → ((x : X) → p x ≡ true → q x ≡ true) → (xs : List X) → filter p (filter q xs) ≡ filter p xs
filter_through p q more [] = refl
filter_through {X} p q more (x ∷ xs) = by (p x) (q x) refl refl (filter_through p q more xs)
  where
    by : (b d : Bool) → p x ≡ b → q x ≡ d → filter p (filter q xs) ≡ filter p xs → filter p (cond d (x ∷ filter q xs) (filter q xs)) ≡ cond b (x ∷ filter p xs) (filter p xs)
    by true true is are h = ap (λ c. cond c (x ∷ filter p (filter q xs)) (filter p (filter q xs))) is ∙ ap (λ (l : List X). x ∷ l) h
    by true false is are h = let both : q x ≡ true = more x is in cc
    by false true is are h = ap (λ c. cond c (x ∷ filter p (filter q xs)) (filter p (filter q xs))) is ∙ h
    by false false is are h = h

rest_rest : (xs ys : List Record) (held : Held) → ((item : Record) → Contains xs item → Contains ys item) → held_rest xs (held_rest ys held) ≡ held_rest xs held
rest_rest xs ys held part =
    λ i. record { records = xs; chains = filter_through (λ chain. list_any (is_of_chain chain) xs) (λ chain. list_any (is_of_chain chain) ys) more held.chains i }
  where
    more : (chain : ZoneChain) → list_any (is_of_chain chain) xs ≡ true → list_any (is_of_chain chain) ys ≡ true
    more chain any = let one = found (is_of_chain chain) xs any in is_found (is_of_chain chain) ys one.0 (part one.0 one.1) one.2

rest_alike : (xs : List Record) (held other : Held) → IsReordered held other → IsReordered (held_rest xs held) (held_rest xs other)
rest_alike xs held other order =
    reordered (held_rest xs held) (held_rest xs other) (λ item. (λ has. has, λ has. has))
    (alike_filtered (λ chain. list_any (is_of_chain chain) xs) (λ chain. list_any (is_of_chain chain) xs) (λ chain. refl) held.chains other.chains (list_alike held other order))

dropped_was : {X : Type 0} (n : ℕ) (xs : List X) (x : X) → Contains (drop n xs) x → Contains xs x
dropped_was zero xs x has = has
dropped_was (suc n) [] x has = has
dropped_was (suc n) (y ∷ ys) x has = there y ys x (dropped_was n ys x has)

pub pairs_dropped : {X : Type 0} (R : X → X → Type 0) (n : ℕ) (xs : List X) → AllPairs R xs → AllPairs R (drop n xs)
pairs_dropped R zero xs all = all
pairs_dropped R (suc n) [] all = all
pairs_dropped R (suc n) (x ∷ xs) all = pairs_dropped R n xs (pairs_tail R x xs all)

-- ---- the first so many records are out

pub record IsRest (held : Held) (n : ℕ) (rest : Held) : Type 0 where
  pub records : rest.records ≡ drop n held.records
  pub order : IsReordered (rest_of n held) rest

pub rest_begins : (held : Held) → EachChainHasARecord held → IsRest held 0 held
rest_begins held each = record {
  records = refl;
  order = reordered (rest_of 0 held) held (λ item. (λ has. has, λ has. has)) (λ zone. ap (filter (in_zone zone)) all);
}
  where
    has_one : All (λ chain. list_any (is_of_chain chain) held.records ≡ true) held.chains
    has_one k d within =
        let chain = get_or held.chains k d in
        let one = each chain (Contains-get_or held.chains k d within) in
        is_found (is_of_chain chain) held.records one.0 one.1 (is_of chain one.0 one.2)

    all : chains_held held.records held.chains ≡ held.chains
    all = filter_all (λ chain. list_any (is_of_chain chain) held.records) held.chains has_one

pub rest_goes_on : (held : Held) (n : ℕ) (rest made : Held) → IsRest held n rest → made.records ≡ drop 1 rest.records → IsReordered (rest_of 1 rest) made → IsRest held (n + 1) made
rest_goes_on held n rest made is records order = record {
  records = records ∙ fewer;
  order = through (rest_of (n + 1) held) (rest_of 1 rest) made step order;
}
  where
    fewer : drop 1 rest.records ≡ drop (n + 1) held.records
    fewer = ap (drop 1) is.records ∙ drop-drop 1 n held.records

    part : (item : Record) → Contains (drop 1 rest.records) item → Contains (drop n held.records) item
    part item has = subst (λ l. Contains l item) is.records (dropped_was 1 rest.records item has)

    step : IsReordered (rest_of (n + 1) held) (rest_of 1 rest)
    step =
        subst (λ h. IsReordered h (rest_of 1 rest)) (rest_rest (drop 1 rest.records) (drop n held.records) held part ∙ ap (λ l. held_rest l held) fewer)
        (rest_alike (drop 1 rest.records) (rest_of n held) rest is.order)

pub rest_apart : (held : Held) (n : ℕ) (rest : Held) → IsRest held n rest → NoneDisplaces held.records → NoneDisplaces rest.records
rest_apart held n rest is apart = subst NoneDisplaces (sym is.records) (pairs_dropped IsApart n held.records apart)

-- what a test keeps, where it is all but the first
pub where_is_rest : (test : Record → Bool) (held : Held) (n : ℕ) (rest : Held) → filter test held.records ≡ drop n held.records → IsReordered (rest_of n held) rest → IsReordered (held_where test held) rest
where_is_rest test held n rest same order = subst (λ l. IsReordered (held_rest l held) rest) (sym same) order

-- ---- what a test keeps that fails the first so many

pub fails_first : {X : Type 0} (p : X → Bool) (n : ℕ) (xs : List X) → All (λ x. p x ≡ false) (take n xs) → All (λ x. p x ≡ true) (drop n xs) → filter p xs ≡ drop n xs
fails_first p n xs fails passes =
    ap (filter p) (sym (take-append-drop n xs)) ∙ filter-append p (take n xs) (drop n xs)
    ∙ ap (λ l. l ++ filter p (drop n xs)) (filter_none p (take n xs) fails) ∙ filter_all p (drop n xs) passes

-- ---- how many go before a record

module _ {X : Type 0} (cmp : X → X → Ordering) (total : IsTotalOrder cmp) where
  not_below_first : (x : X) (xs : List X) → IsInOrder cmp (x ∷ xs) → All (λ y. is_lt (cmp y x) ≡ false) xs
  not_below_first x xs order k d within = ap is_lt (total.antisymm (get_or xs k d) x ∙ ap ordering_reverse (below_rest cmp x xs order k d within))

  count_before : (xs : List X) → IsInOrder cmp xs → (k : ℕ) (d : X) → k < length xs → length (filter (λ y. is_lt (cmp y (get_or xs k d))) xs) ≡ k
  count_before [] order k d within = absurd (omega (arith, within))
  count_before (x ∷ xs) order zero d within =
      let below : X → Bool = λ y. is_lt (cmp y x) in
      ap (λ b. length (cond b (x ∷ filter below xs) (filter below xs))) (ap is_lt (tied_itself total x)) ∙ ap length (filter_none below xs (not_below_first x xs order))
  count_before (x ∷ xs) order (suc k) d within =
      let below : X → Bool = λ y. is_lt (cmp y (get_or xs k d)) in
      let rest : length (filter below xs) ≡ k = count_before xs (rest_in_order cmp x xs order) k d (omega (arith, within)) in
      ap (λ b. length (cond b (x ∷ filter below xs) (filter below xs))) (ap is_lt (below_rest cmp x xs order k d (omega (arith, within)))) ∙ omega (arith, rest)

  module _ (xs : List X) (order : IsInOrder cmp xs) (m : ℕ) where
    abbrev stays : X → Bool
    stays x = not (nat_lt (count_by (λ y. is_lt (cmp y x)) xs) m)

    counted : (k : ℕ) (d : X) → k < length xs → count_by (λ y. is_lt (cmp y (get_or xs k d))) xs ≡ k
    counted k d within = sym (length-filter (λ y. is_lt (cmp y (get_or xs k d))) xs) ∙ count_before xs order k d within

    goes_at : (n k : ℕ) → n ≡ k → k < m → not (nat_lt n m) ≡ false
    goes_at n k same before = ap not ((Decides-ltb n m).1 (omega (arith, same, before)))

    stays_at : (n k : ℕ) → n ≡ k → m ≤ k → not (nat_lt n m) ≡ true
    stays_at n k same from = by (nat_lt n m) refl
      where
        by : (b : Bool) → nat_lt n m ≡ b → not b ≡ true
        by false is = refl
        by true is = absurd (omega (arith, same, from, (Decides-ltb n m).0 is))

    -- as many go as are wanted, and they are the first
    pub first_go : filter stays xs ≡ drop m xs
    first_go = fails_first stays m xs first later
      where
        first : All (λ x. stays x ≡ false) (take m xs)
        first k d within =
            let before : k < m = omega (arith, within, length-take m xs) in
            let there' : k < length xs = omega (arith, within, length-take m xs) in
            subst (λ x. stays x ≡ false) (sym (get_or-take m xs k d before)) (goes_at _ k (counted k d there') before)

        later : All (λ x. stays x ≡ true) (drop m xs)
        later k d within =
            let there' : m + k < length xs = omega (arith, within, length-drop m xs) in
            subst (λ x. stays x ≡ true) (sym (get_or-drop m xs k d)) (stays_at _ (m + k) (counted (m + k) d there') (omega arith))
