-- What a list has that is sorted by an order, and when two lists are one.
use Rattle.std.proofs.Common.{◌≡◌, ◌≢◌, ◌⊎◌, ◌↔◌, inl, inr, Bool, true, false, true≢false, List, [], ◌∷◌, length, cond, All, Contains, filter, count_by, refl, sym, ◌∙◌, ap, subst, arith}
use Rattle.std.specs.List.{AllPairs}
use Rattle.std.specs.List.Sorted.{IsPermutation}
use Rattle.std.specs.Ordering.{is_gt, ordering_reverse}
use Rattle.std.specs.Cmp.{IsTotalOrder}
use Rattle.std.specs.declared.cmp.Ordering.{Ordering}
use Rattle.std.specs.declared.cmp.Ordering.TheVariants.{Less, Equal, Greater}
use Rattle.std.proofs.lemmas.Cmp.{upto, tied_back}
use Rattle.std.proofs.lemmas.List.Elements.{All-nil, All-cons, All-head, All-tail, All-weaker, All-contains}
use Rattle.std.proofs.lemmas.List.Kept.{AllPairs-cons}
use Rattle.std.proofs.lemmas.List.Sorted.{IsPermutation-refl, IsPermutation-sym, IsPermutation-cons, IsPermutation-trans, IsPermutation-middle, All-permutation, Contains-permutation, length_permutation, sum_by-IsPermutation}
use Rattle.dname.proofs.ArcLemmas.{not_both_ways}
use Rattle.facts.proofs.Lists.{here, there, here_or_there, nothing_in}
use Rattle.facts.proofs.Pairs.{pairs_head, pairs_tail}
use Rattle.held_laws.specs.KeyOrder.{placed, sorted}

module _ {A : Type 0} (cmp : A → A → Ordering) where
  -- ---- the same items

  placed_moves : (new : A) (xs : List A) → IsPermutation (new ∷ xs) (placed cmp new xs)
  placed_moves new [] = IsPermutation-refl (new ∷ [])
  placed_moves new (x ∷ xs) = by (is_gt (cmp new x)) (placed_moves new xs)
    where
      by : (b : Bool) → IsPermutation (new ∷ xs) (placed cmp new xs) → IsPermutation (new ∷ x ∷ xs) (cond b (x ∷ placed cmp new xs) (new ∷ x ∷ xs))
      by false rest = IsPermutation-refl (new ∷ x ∷ xs)
      by true rest =
          IsPermutation-trans (new ∷ x ∷ xs) (x ∷ new ∷ xs) (x ∷ placed cmp new xs)
          (IsPermutation-sym (x ∷ new ∷ xs) (new ∷ x ∷ xs) (IsPermutation-middle (x ∷ []) new xs))
          (IsPermutation-cons x (new ∷ xs) (placed cmp new xs) rest)

  pub sorted_moves : (xs : List A) → IsPermutation xs (sorted cmp xs)
  sorted_moves [] = IsPermutation-refl []
  sorted_moves (x ∷ xs) =
      IsPermutation-trans (x ∷ xs) (x ∷ sorted cmp xs) (placed cmp x (sorted cmp xs))
      (IsPermutation-cons x xs (sorted cmp xs) (sorted_moves xs)) (placed_moves x (sorted cmp xs))

  pub sorted_members : (xs : List A) (x : A) → Contains xs x ↔ Contains (sorted cmp xs) x
  sorted_members xs x = (Contains-permutation xs (sorted cmp xs) x (sorted_moves xs), Contains-permutation (sorted cmp xs) xs x (IsPermutation-sym xs (sorted cmp xs) (sorted_moves xs)))

  pub sorted_length : (xs : List A) → length (sorted cmp xs) ≡ length xs
  sorted_length xs = length_permutation xs (sorted cmp xs) (sorted_moves xs)

  pub sorted_count : (p : A → Bool) (xs : List A) → count_by p (sorted cmp xs) ≡ count_by p xs
  sorted_count p xs = sum_by-IsPermutation (λ x. cond (p x) 1 0) xs (sorted cmp xs) (sorted_moves xs)

  -- ---- what holds of each two, whichever comes first

  module _ (R : A → A → Type 0) (either : (x y : A) → R x y → R y x) where
    placed_pairs : (new : A) (xs : List A) → All (R new) xs → AllPairs R xs → AllPairs R (placed cmp new xs)
    placed_pairs new [] all pairs = AllPairs-cons R new [] all pairs
    placed_pairs new (x ∷ xs) all pairs = by (is_gt (cmp new x)) (placed_pairs new xs (All-tail (R new) x xs all) (pairs_tail R x xs pairs))
      where
        by : (b : Bool) → AllPairs R (placed cmp new xs) → AllPairs R (cond b (x ∷ placed cmp new xs) (new ∷ x ∷ xs))
        by false rest = AllPairs-cons R new (x ∷ xs) all pairs
        by true rest =
            AllPairs-cons R x (placed cmp new xs) (All-permutation (R x) (new ∷ xs) (placed cmp new xs) (placed_moves new xs)
            (All-cons (R x) new xs (either new x (All-head (R new) x xs all)) (pairs_head R x xs pairs))) rest

    pub sorted_pairs : (xs : List A) → AllPairs R xs → AllPairs R (sorted cmp xs)
    sorted_pairs [] pairs = pairs
    sorted_pairs (x ∷ xs) pairs =
        placed_pairs x (sorted cmp xs) (All-permutation (R x) xs (sorted cmp xs) (sorted_moves xs) (pairs_head R x xs pairs)) (sorted_pairs xs (pairs_tail R x xs pairs))

  -- ---- of what ties, the same in the same turn

  module _ (p : A → Bool) (ties : (x y : A) → p x ≡ true → p y ≡ true → is_gt (cmp x y) ≡ false) where
    placed_filter : (new : A) (xs : List A) → filter p (placed cmp new xs) ≡ filter p (new ∷ xs)
    placed_filter new [] = refl
    placed_filter new (x ∷ xs) = by (is_gt (cmp new x)) refl (placed_filter new xs)
      where
        passed : (c d : Bool) (rest : List A) → (c ≡ true → d ≡ true → ⊥) → rest ≡ cond c (new ∷ filter p xs) (filter p xs) → cond d (x ∷ rest) rest ≡ cond c (new ∷ cond d (x ∷ filter p xs) (filter p xs)) (cond d (x ∷ filter p xs) (filter p xs))
        passed true true rest both same = absurd (both refl refl)
        passed true false rest both same = same
        passed false true rest both same = ap (λ (l : List A). x ∷ l) same
        passed false false rest both same = same

        by : (b : Bool) → is_gt (cmp new x) ≡ b → filter p (placed cmp new xs) ≡ filter p (new ∷ xs) → filter p (cond b (x ∷ placed cmp new xs) (new ∷ x ∷ xs)) ≡ filter p (new ∷ x ∷ xs)
        by false is rest = refl
        by true is rest = passed (p new) (p x) (filter p (placed cmp new xs)) (λ h h'. true≢false (sym is ∙ ties new x h h')) rest

    pub sorted_filter : (xs : List A) → filter p (sorted cmp xs) ≡ filter p xs
    sorted_filter [] = refl
    sorted_filter (x ∷ xs) = placed_filter x (sorted cmp xs) ∙ ap (λ (l : List A). cond (p x) (x ∷ l) l) (sorted_filter xs)

  -- ---- the order

  abbrev pub NotAfter : A → A → Type 0
  NotAfter x y = is_gt (cmp x y) ≡ false

  module _ (total : IsTotalOrder cmp) where
    back : (x y : A) → is_gt (cmp x y) ≡ true → NotAfter y x
    back x y is = turned (cmp x y) (cmp y x) (total.antisymm y x) is
      where
        turned : (o o' : Ordering) → o' ≡ ordering_reverse o → is_gt o ≡ true → is_gt o' ≡ false
        turned Less o' same is = absurd (true≢false (sym is))
        turned Equal o' same is = absurd (true≢false (sym is))
        turned Greater o' same is = ap is_gt same

    placed_order : (new : A) (xs : List A) → AllPairs NotAfter xs → AllPairs NotAfter (placed cmp new xs)
    placed_order new [] pairs = AllPairs-cons NotAfter new [] (All-nil _) pairs
    placed_order new (x ∷ xs) pairs = by (is_gt (cmp new x)) refl (placed_order new xs (pairs_tail NotAfter x xs pairs))
      where
        by : (b : Bool) → is_gt (cmp new x) ≡ b → AllPairs NotAfter (placed cmp new xs) → AllPairs NotAfter (cond b (x ∷ placed cmp new xs) (new ∷ x ∷ xs))
        by false is rest =
            AllPairs-cons NotAfter new (x ∷ xs)
            (All-cons (NotAfter new) x xs is (All-weaker (NotAfter x) (NotAfter new) (λ y. upto total new x y is) xs (pairs_head NotAfter x xs pairs))) pairs
        by true is rest =
            AllPairs-cons NotAfter x (placed cmp new xs) (All-permutation (NotAfter x) (new ∷ xs) (placed cmp new xs) (placed_moves new xs)
            (All-cons (NotAfter x) new xs (back new x is) (pairs_head NotAfter x xs pairs))) rest

    pub sorted_order : (xs : List A) → AllPairs NotAfter (sorted cmp xs)
    sorted_order [] = λ i j d below within. absurd (omega arith)
    sorted_order (x ∷ xs) = placed_order x (sorted cmp xs) (sorted_order xs)

    -- where no two tie, each comes before all that follow
    pub sorted_rises : (xs : List A) → AllPairs (λ x y. cmp x y ≢ Equal) xs → AllPairs (λ x y. cmp x y ≡ Less) (sorted cmp xs)
    sorted_rises xs apart i j d below within =
        rises _ (sorted_order xs i j d below within)
        (sorted_pairs (λ x y. cmp x y ≢ Equal) (λ x y h tie. h (tied_back total y x tie)) xs apart i j d below within)
      where
        rises : (o : Ordering) → is_gt o ≡ false → o ≢ Equal → o ≡ Less
        rises Less not_after no_tie = refl
        rises Equal not_after no_tie = absurd (no_tie refl)
        rises Greater not_after no_tie = absurd (true≢false not_after)

    -- two rising lists of the same items are one
    pub rising_one : (xs ys : List A) → AllPairs (λ x y. cmp x y ≡ Less) xs → AllPairs (λ x y. cmp x y ≡ Less) ys → ((x : A) → Contains xs x ↔ Contains ys x) → xs ≡ ys
    rising_one [] [] up up' same = refl
    rising_one [] (y ∷ ys) up up' same = absurd (nothing_in y ((same y).1 (here y ys)))
    rising_one (x ∷ xs) [] up up' same = absurd (nothing_in x ((same x).0 (here x xs)))
    rising_one (x ∷ xs) (y ∷ ys) up up' same =
        λ i. first i ∷ rising_one xs ys (pairs_tail Before x xs up) (pairs_tail Before y ys up') (λ z. (later x xs y ys first up z (same z).0, later y ys x xs (sym first) up' z (same z).1)) i
      where
        Before : A → A → Type 0
        Before x y = cmp x y ≡ Less

        first : x ≡ y
        first = by (here_or_there y ys x ((same x).0 (here x xs))) (here_or_there x xs y ((same y).1 (here y ys)))
          where
            by : (y ≡ x) ⊎ Contains ys x → (x ≡ y) ⊎ Contains xs y → x ≡ y
            by (inl is) other = sym is
            by (inr has) (inl is) = is
            by (inr has) (inr has') = absurd (not_both_ways cmp total x y (All-contains (Before x) xs y (pairs_head Before x xs up) has') (All-contains (Before y) ys x (pairs_head Before y ys up') has))

        later : (a : A) (more : List A) (b : A) (others : List A) → a ≡ b → AllPairs Before (a ∷ more) → (z : A) → (Contains (a ∷ more) z → Contains (b ∷ others) z) → Contains more z → Contains others z
        later a more b others one rises z to has = by (here_or_there b others z (to (there a more z has)))
          where
            by : (b ≡ z) ⊎ Contains others z → Contains others z
            by (inr h) = h
            by (inl is) =
                let less : cmp a a ≡ Less = subst (Before a) (sym (one ∙ is)) (All-contains (Before a) more z (pairs_head Before a more rises) has) in
                absurd (not_both_ways cmp total a a less less)
