-- Lists in strict order.
use Rattle.std.proofs.Common.{◌≡◌, ◌≢◌, ◌⊎◌, ◌↔◌, ℕ, zero, suc, ◌<◌, ◌≤◌, Bool, true, false, cond, List, [], ◌∷◌, ◌++◌, length, get_or, drop, All, Contains, filter, inl, inr, refl, sym, ap, ◌∙◌, subst, arith}
use Rattle.std.specs.List.{AllPairs}
use Rattle.std.specs.List.Sorted.{IsPartitionedBy}
use Rattle.std.specs.Cmp.{IsTotalOrder}
use Rattle.std.specs.Ordering.{is_lt, is_eq, is_gt}
use Rattle.std.specs.declared.cmp.Ordering.{Ordering}
use Rattle.std.specs.declared.cmp.Ordering.TheVariants.{Less, Equal, Greater}
use Rattle.std.proofs.lemmas.Bool.{cases_lt}
use Rattle.std.proofs.lemmas.Grind.{common_steps}
use Rattle.std.proofs.lemmas.List.{get_or_default}
use Rattle.std.proofs.lemmas.List.Elements.{All-append, All-cons, All-contains, All-filter, All-head, All-tail, filter_passes}
use Rattle.ordered_list.specs.Order.{IsInOrder, with_entry}
use Rattle.facts.proofs.Lists.{here, there, here_or_there, nothing_in}
use Rattle.facts.proofs.Orderings.{less_from, greater_from}

module _ {X : Type 0} (cmp : X → X → Ordering) where
  pub below_rest : (x : X) (xs : List X) → IsInOrder cmp (x ∷ xs) → All (λ y. cmp x y ≡ Less) xs
  below_rest x xs h = λ k d lt. h zero (suc k) d (omega arith) (omega arith)

  pub rest_in_order : (x : X) (xs : List X) → IsInOrder cmp (x ∷ xs) → IsInOrder cmp xs
  rest_in_order x xs h = λ i j d below within. h (suc i) (suc j) d (omega arith) (omega arith)

  pub cons_in_order : (x : X) (xs : List X) → All (λ y. cmp x y ≡ Less) xs → IsInOrder cmp xs → IsInOrder cmp (x ∷ xs)
  cons_in_order x xs below h zero zero d before within = absurd (omega arith)
  cons_in_order x xs below h zero (suc j) d before within = below j d (omega arith)
  cons_in_order x xs below h (suc i) zero d before within = absurd (omega arith)
  cons_in_order x xs below h (suc i) (suc j) d before within = h i j d (omega arith) (omega arith)

  pub append_in_order : (xs ys : List X) → IsInOrder cmp xs → IsInOrder cmp ys → All (λ x. All (λ y. cmp x y ≡ Less) ys) xs → IsInOrder cmp (xs ++ ys)
  append_in_order [] ys h h' below = h'
  append_in_order (x ∷ xs) ys h h' below =
      let P : X → Type 0 = λ z. All (λ y. cmp z y ≡ Less) ys in
      cons_in_order x (xs ++ ys) (All-append (λ y. cmp x y ≡ Less) xs ys (below_rest x xs h) (All-head P x xs below)) (append_in_order xs ys (rest_in_order x xs h) h' (All-tail P x xs below))

  pub filter_in_order : (p : X → Bool) (xs : List X) → IsInOrder cmp xs → IsInOrder cmp (filter p xs)
  filter_in_order p [] h = h
  filter_in_order p (x ∷ xs) h = elim (p x) as (λ b. IsInOrder cmp (cond b (x ∷ filter p xs) (filter p xs))) [
    | true ↦ cons_in_order x (filter p xs) (All-filter p (λ y. cmp x y ≡ Less) xs (below_rest x xs h)) (filter_in_order p xs (rest_in_order x xs h))
    | false ↦ filter_in_order p xs (rest_in_order x xs h)
  ]

  pub drop_in_order : (n : ℕ) (xs : List X) → IsInOrder cmp xs → IsInOrder cmp (drop n xs)
  drop_in_order zero xs h = h
  drop_in_order (suc n) [] h = h
  drop_in_order (suc n) (x ∷ xs) h = drop_in_order n xs (rest_in_order x xs h)

  -- what stands behind the first n, where nothing comes before it
  pub dropped_in_order : (n : ℕ) (xs : List X) → IsInOrder cmp xs → (made : List X) → made ≡ drop n xs → IsInOrder cmp made
  dropped_in_order n xs h made is = subst (IsInOrder cmp) (sym is) (drop_in_order n xs h)

  -- a test that holds of all that rank below an entry of which it holds
  pub partitioned : (p : X → Bool) (xs : List X) → IsInOrder cmp xs → ((x y : X) → cmp x y ≡ Less → p y ≡ true → p x ≡ true) → IsPartitionedBy p xs
  partitioned p xs h down i j d le within passes = elim (cases_lt i j) [
    | inl before ↦ down (get_or xs i d) (get_or xs j d) (h i j d before within) passes
    | inr from ↦ let same : i ≡ j = omega arith in ap (λ k. p (get_or xs k d)) same ∙ passes
  ]

  -- a probe that gives `Less` for all that rank below an entry for which it does
  pub probed : (probe : X → Ordering) (xs : List X) → IsInOrder cmp xs → ((x y : X) → cmp x y ≡ Less → probe y ≡ Less → probe x ≡ Less) → IsPartitionedBy (λ x. is_lt (probe x)) xs
  probed probe xs h down = partitioned (λ x. is_lt (probe x)) xs h (λ x y less passes. ap is_lt (down x y less (less_from (probe y) passes)))

  module _ (total : IsTotalOrder cmp) where
    above_from_less : (x y like : X) → cmp x y ≡ Less → cmp x like ≢ Less → cmp y like ≡ Greater
    above_from_less x y like less not_less = grind (arith, common_steps, total)

    -- behind an entry that doesn't rank below `like` all rank above it
    pub above_behind : (like x : X) (xs : List X) → IsInOrder cmp (x ∷ xs) → cmp x like ≢ Less → All (λ y. cmp y like ≡ Greater) xs
    above_behind like x xs h not_less = λ k d lt. above_from_less x (get_or xs k d) like (below_rest x xs h k d lt) not_less

    less_across : (x y e : X) → cmp x e ≡ Less → cmp y e ≡ Greater → cmp x y ≡ Less
    less_across x y e less greater = grind (arith, common_steps, total)

    less_of_greater : (y e : X) → cmp y e ≡ Greater → cmp e y ≡ Less
    less_of_greater y e greater = grind (arith, common_steps, total)

    pub with_in_order : (e : X) (xs : List X) → IsInOrder cmp xs → IsInOrder cmp (with_entry cmp e xs)
    with_in_order e xs h =
        let low : X → Bool = λ x. is_lt (cmp x e) in
        let high : X → Bool = λ x. is_gt (cmp x e) in
        let less : (k : ℕ) (d : X) → k < length (filter low xs) → cmp (get_or (filter low xs) k d) e ≡ Less = λ k d lt. less_from _ (filter_passes low xs k d lt) in
        let greater : (k : ℕ) (d : X) → k < length (filter high xs) → cmp (get_or (filter high xs) k d) e ≡ Greater = λ k d lt. greater_from _ (filter_passes high xs k d lt) in
        append_in_order (filter low xs) (e ∷ filter high xs)
        (filter_in_order low xs h)
        (cons_in_order e (filter high xs) (λ k d lt. less_of_greater (get_or (filter high xs) k d) e (greater k d lt)) (filter_in_order high xs h))
        (λ k d lt. All-cons (λ y. cmp (get_or (filter low xs) k d) y ≡ Less) e (filter high xs) (less k d lt) (λ k' d' lt'. less_across (get_or (filter low xs) k d) (get_or (filter high xs) k' d') e (less k d lt) (greater k' d' lt')))

    not_itself : (a : X) → cmp a a ≡ Less → ⊥
    not_itself a less = grind (arith, common_steps, total)

    not_both_ways : (a b : X) → cmp a b ≡ Less → cmp b a ≡ Less → ⊥
    not_both_ways a b less more = not_itself a (total.trans a b a less more)

    no_tie : (a b : X) → cmp a b ≡ Equal → cmp b a ≡ Less → ⊥
    no_tie a b tie less = grind (arith, common_steps, total)

    -- of one rank there is one entry
    pub one_of_rank : (xs : List X) → IsInOrder cmp xs → (x y : X) → Contains xs x → Contains xs y → cmp x y ≡ Equal → x ≡ y
    one_of_rank xs h x y has has' tie = by (cases_lt i j) (cases_lt j i)
      where
        i : ℕ
        i = has.0

        j : ℕ
        j = has'.0

        x_is : get_or xs i x ≡ x
        x_is = has.2

        y_is : get_or xs j x ≡ y
        y_is = get_or_default xs j x y has'.1 ∙ has'.2

        less : i < j → cmp x y ≡ Less
        less before = subst (λ z. cmp z y ≡ Less) x_is (subst (λ z. cmp (get_or xs i x) z ≡ Less) y_is (h i j x before has'.1))

        more : j < i → cmp y x ≡ Less
        more before = subst (λ z. cmp z x ≡ Less) y_is (subst (λ z. cmp (get_or xs j x) z ≡ Less) x_is (h j i x before has.1))

        by : (i < j) ⊎ (j ≤ i) → (j < i) ⊎ (i ≤ j) → x ≡ y
        by (inl before) other = let l = less before in cc
        by (inr from) (inl before) = absurd (no_tie x y tie (more before))
        by (inr from) (inr from') = let same : i ≡ j = omega arith in sym x_is ∙ (ap (λ k. get_or xs k x) same ∙ y_is)

    pub no_duplicates : (xs : List X) → IsInOrder cmp xs → AllPairs (λ x y. x ≢ y) xs
    no_duplicates xs h i j d before within same = not_itself (get_or xs i d) (subst (λ z. cmp (get_or xs i d) z ≡ Less) (sym same) (h i j d before within))

    same_first : (x y : X) (xs ys : List X) → IsInOrder cmp (x ∷ xs) → IsInOrder cmp (y ∷ ys) → Contains (y ∷ ys) x → Contains (x ∷ xs) y → x ≡ y
    same_first x y xs ys h h' has has' = by (here_or_there y ys x has) (here_or_there x xs y has')
      where
        by : (y ≡ x) ⊎ Contains ys x → (x ≡ y) ⊎ Contains xs y → x ≡ y
        by (inl is) other = sym is
        by (inr later) (inl is) = is
        by (inr later) (inr later') = absurd (not_both_ways x y (All-contains (λ z. cmp x z ≡ Less) xs y (below_rest x xs h) later') (All-contains (λ z. cmp y z ≡ Less) ys x (below_rest y ys h') later))

    behind : (x y : X) (xs ys : List X) (z : X) → IsInOrder cmp (x ∷ xs) → x ≡ y → Contains xs z → Contains (y ∷ ys) z → Contains ys z
    behind x y xs ys z h first later has = elim (here_or_there y ys z has) [
      | inl is ↦ absurd (not_itself x (subst (λ v. cmp x v ≡ Less) (sym (first ∙ is)) (All-contains (λ v. cmp x v ≡ Less) xs z (below_rest x xs h) later)))
      | inr found ↦ found
    ]

    -- two lists in order that have the same members are one
    pub same_members : (xs ys : List X) → IsInOrder cmp xs → IsInOrder cmp ys → ((x : X) → Contains xs x ↔ Contains ys x) → xs ≡ ys
    same_members [] [] h h' same = refl
    same_members [] (y ∷ ys) h h' same = absurd (nothing_in y ((same y).1 (here y ys)))
    same_members (x ∷ xs) [] h h' same = absurd (nothing_in x ((same x).0 (here x xs)))
    same_members (x ∷ xs) (y ∷ ys) h h' same =
        let first : x ≡ y = same_first x y xs ys h h' ((same x).0 (here x xs)) ((same y).1 (here y ys)) in
        ap (λ z. z ∷ xs) first ∙ ap (λ zs. y ∷ zs) (same_members xs ys (rest_in_order x xs h) (rest_in_order y ys h')
        (λ z. (λ has. behind x y xs ys z h first has ((same z).0 (there x xs z has)), λ has. behind y x ys xs z h' (sym first) has ((same z).1 (there y ys z has)))))
