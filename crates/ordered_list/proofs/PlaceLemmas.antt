-- Where an entry stands, or would stand, in a list in order.
use Rattle.std.proofs.Common.{◌≡◌, ℕ, suc, ◌+◌, ◌<◌, ◌≤◌, Bool, true, false, true≢false, cond, List, [], ◌∷◌, ◌++◌, length, get_or, take, drop, All, filter, find, Some, None, refl, sym, ap, ◌∙◌, subst, inl, inr, arith}
use Rattle.std.specs.List.{prefix_len, slice_get}
use Rattle.std.specs.List.Sorted.{IsPartitionedBy}
use Rattle.std.specs.Cmp.{IsTotalOrder}
use Rattle.std.specs.Ordering.{is_lt, is_le, is_eq, is_gt}
use Rattle.std.specs.declared.cmp.Ordering.{Ordering}
use Rattle.std.specs.declared.cmp.Ordering.TheVariants.{Less, Equal, Greater}
use Rattle.std.proofs.lemmas.List.{append_assoc, drop_all, drop_at, drop_more, length-append, nil_from_length, take_at}
use Rattle.std.proofs.lemmas.List.Sums.{prefix_len_passes}
use Rattle.std.proofs.lemmas.Bool.{cases_lt}
use Rattle.std.proofs.lemmas.Grind.{common_steps}
use Rattle.ordered_list.specs.Order.{IsInOrder, IsRank, with_entry, without_entry}
use Rattle.facts.proofs.Filters.{filter_all, filter_none}
use Rattle.facts.proofs.Orderings.{less_from}
use Rattle.ordered_list.proofs.FilterLemmas.{find_is_first}
use Rattle.ordered_list.proofs.OrderLemmas.{rest_in_order, above_behind, partitioned}

module _ {X : Type 0} (cmp : X → X → Ordering) (total : IsTotalOrder cmp) (like : X) where
  abbrev below : X → Bool
  below x = is_lt (cmp x like)

  abbrev level : X → Bool
  level x = is_eq (cmp x like)

  abbrev above : X → Bool
  above x = is_gt (cmp x like)

  -- what a filter makes of entries that all rank above
  none_below : (xs : List X) → All (λ y. cmp y like ≡ Greater) xs → filter below xs ≡ []
  none_below xs h = filter_none below xs (λ k d lt. ap is_lt (h k d lt))

  none_level : (xs : List X) → All (λ y. cmp y like ≡ Greater) xs → filter level xs ≡ []
  none_level xs h = filter_none level xs (λ k d lt. ap is_eq (h k d lt))

  all_above : (xs : List X) → All (λ y. cmp y like ≡ Greater) xs → filter above xs ≡ xs
  all_above xs h = filter_all above xs (λ k d lt. ap is_gt (h k d lt))

  -- the entries below, those level, and those above
  pub parts : (xs : List X) → IsInOrder cmp xs → xs ≡ filter below xs ++ (filter level xs ++ filter above xs)
  parts [] h = refl
  parts (x ∷ xs) h = by (cmp x like) refl (parts xs (rest_in_order cmp x xs h))
    where
      by : (rank : Ordering) → cmp x like ≡ rank → xs ≡ filter below xs ++ (filter level xs ++ filter above xs) → x ∷ xs ≡ filter below (x ∷ xs) ++ (filter level (x ∷ xs) ++ filter above (x ∷ xs))
      by Less is rest = rw is (ap (λ ys. x ∷ ys) rest)
      by Equal is rest =
          let high : All (λ y. cmp y like ≡ Greater) xs = above_behind cmp total like x xs h (λ less. cc) in
          rw (is, none_below xs high, none_level xs high, all_above xs high) refl
      by Greater is rest =
          let high : All (λ y. cmp y like ≡ Greater) xs = above_behind cmp total like x xs h (λ less. cc) in
          rw (is, none_below xs high, none_level xs high, all_above xs high) refl

  -- how many rank below, and how many rank level: one at most
  pub prefix_below : (xs : List X) → IsInOrder cmp xs → prefix_len below xs ≡ length (filter below xs)
  prefix_below [] h = refl
  prefix_below (x ∷ xs) h = by (cmp x like) refl (prefix_below xs (rest_in_order cmp x xs h))
    where
      by : (rank : Ordering) → cmp x like ≡ rank → prefix_len below xs ≡ length (filter below xs) → prefix_len below (x ∷ xs) ≡ length (filter below (x ∷ xs))
      by Less is rest = rw is (omega (arith, rest))
      by Equal is rest =
          let high : All (λ y. cmp y like ≡ Greater) xs = above_behind cmp total like x xs h (λ less. cc) in
          rw (is, none_below xs high) refl
      by Greater is rest =
          let high : All (λ y. cmp y like ≡ Greater) xs = above_behind cmp total like x xs h (λ less. cc) in
          rw (is, none_below xs high) refl

  abbrev upto : X → Bool
  upto x = is_le (cmp x like)

  none_upto : (xs : List X) → All (λ y. cmp y like ≡ Greater) xs → prefix_len upto xs ≡ 0
  none_upto [] h = refl
  none_upto (x ∷ xs) h = let first : cmp x like ≡ Greater = h 0 x (omega arith) in rw first refl

  pub prefix_upto : (xs : List X) → IsInOrder cmp xs → prefix_len upto xs ≡ length (filter below xs) + length (filter level xs)
  prefix_upto [] h = refl
  prefix_upto (x ∷ xs) h = by (cmp x like) refl (prefix_upto xs (rest_in_order cmp x xs h))
    where
      by : (rank : Ordering) → cmp x like ≡ rank → prefix_len upto xs ≡ length (filter below xs) + length (filter level xs) → prefix_len upto (x ∷ xs) ≡ length (filter below (x ∷ xs)) + length (filter level (x ∷ xs))
      by Less is rest = rw is (omega (arith, rest))
      by Equal is rest =
          let high : All (λ y. cmp y like ≡ Greater) xs = above_behind cmp total like x xs h (λ less. cc) in
          rw (is, none_upto xs high, none_below xs high, none_level xs high) refl
      by Greater is rest =
          let high : All (λ y. cmp y like ≡ Greater) xs = above_behind cmp total like x xs h (λ less. cc) in
          rw (is, none_below xs high, none_level xs high) refl

  -- the first entry, where it ranks level
  abbrev pub level_first : List X → List X
  level_first [] = []
  level_first (x ∷ xs) = cond (level x) (x ∷ []) []

  -- only the entry behind those below can rank level
  pub level_is : (xs : List X) → IsInOrder cmp xs → filter level xs ≡ level_first (drop (prefix_len below xs) xs)
  level_is [] h = refl
  level_is (x ∷ xs) h = by (cmp x like) refl (level_is xs (rest_in_order cmp x xs h))
    where
      by : (rank : Ordering) → cmp x like ≡ rank → filter level xs ≡ level_first (drop (prefix_len below xs) xs) → filter level (x ∷ xs) ≡ level_first (drop (prefix_len below (x ∷ xs)) (x ∷ xs))
      by Less is rest =
          let more : 1 + prefix_len below xs ≡ suc (prefix_len below xs) = omega arith in
          rw (is, more) rest
      by Equal is rest =
          let high : All (λ y. cmp y like ≡ Greater) xs = above_behind cmp total like x xs h (λ less. cc) in
          rw (is, none_level xs high, is) refl
      by Greater is rest =
          let high : All (λ y. cmp y like ≡ Greater) xs = above_behind cmp total like x xs h (λ less. cc) in
          rw (is, none_level xs high, is) refl

  level_behind : (xs : List X) → IsInOrder cmp xs → (n : ℕ) → n ≡ length (filter below xs) → filter level xs ≡ level_first (drop n xs)
  level_behind xs h n start = level_is xs h ∙ ap (λ k. level_first (drop k xs)) (prefix_below xs h ∙ sym start)

  pub level_here : (xs : List X) → IsInOrder cmp xs → (n : ℕ) (x : X) → n ≡ length (filter below xs) → n < length xs → x ≡ get_or xs n x → filter level xs ≡ cond (level x) (x ∷ []) []
  level_here xs h n x start within is = level_behind xs h n start ∙ (ap level_first (drop_more xs n x within) ∙ ap (λ y. cond (level y) (y ∷ []) []) (sym is))

  pub counts_one : (xs : List X) → IsInOrder cmp xs → (n : ℕ) (x : X) → n ≡ length (filter below xs) → n < length xs → x ≡ get_or xs n x → level x ≡ true → n + 1 ≡ n + length (filter level xs)
  counts_one xs h n x start within is yes' = rw (level_here xs h n x start within is, yes') refl

  pub counts_none : (xs : List X) → IsInOrder cmp xs → (n : ℕ) (x : X) → n ≡ length (filter below xs) → n < length xs → x ≡ get_or xs n x → level x ≡ false → n ≡ n + length (filter level xs)
  counts_none xs h n x start within is no' = rw (level_here xs h n x start within is, no') (omega arith)

  pub counts_past : (xs : List X) → IsInOrder cmp xs → (n : ℕ) → n ≡ length (filter below xs) → length xs ≤ n → n ≡ n + length (filter level xs)
  counts_past xs h n start past =
      let none : filter level xs ≡ [] = level_behind xs h n start ∙ ap level_first (drop_all n xs past) in
      rw none (omega arith)

  -- the entry that a search for one that ranks level gives
  pub found : (xs : List X) → IsInOrder cmp xs → (n : ℕ) (x : X) → n ≡ length (filter below xs) → n < length xs → x ≡ get_or xs n x → 0 < length (filter level xs) → Some x ≡ find level xs
  found xs h n x start within is some = by (level x) refl
    where
      only : filter level xs ≡ cond (level x) (x ∷ []) []
      only = level_here xs h n x start within is

      by : (b : Bool) → level x ≡ b → Some x ≡ find level xs
      by true yes' = sym (find_is_first level xs ∙ (ap (λ ys. slice_get ys 0) only ∙ ap (λ b. slice_get (cond b (x ∷ []) []) 0) yes'))
      by false no' = let none : filter level xs ≡ [] = only ∙ ap (λ b. cond b (x ∷ []) []) no' in absurd (omega (arith, ap length none))

  pub found_none : (xs : List X) → length (filter level xs) ≡ 0 → None ≡ find level xs
  found_none xs none = sym (find_is_first level xs ∙ ap (λ ys. slice_get ys 0) (nil_from_length (filter level xs) none))

  pub few_level : (xs : List X) → IsInOrder cmp xs → length (filter level xs) ≤ 1
  few_level xs h = subst (λ ys. length ys ≤ 1) (sym (level_is xs h)) (few (drop (prefix_len below xs) xs))
    where
      few : (ys : List X) → length (level_first ys) ≤ 1
      few [] = omega arith
      few (y ∷ ys) = elim (level y) as (λ b. length (cond b (y ∷ []) []) ≤ 1) [ true ↦ omega arith | false ↦ omega arith ]

  not_both : (rank : Ordering) → is_lt rank ≡ true → is_eq rank ≡ true → ⊥
  not_both Less less same = true≢false (sym same)
  not_both Equal less same = true≢false (sym less)
  not_both Greater less same = true≢false (sym same)

  -- where the last entry that doesn't rank above is level, those below end before it
  module _ (xs : List X) (h : IsInOrder cmp xs) (n : ℕ) (x : X) (last : n + 1 ≡ prefix_len upto xs) (within : n < length xs) (is : x ≡ get_or xs n x) where
    pub below_level : level x ≡ true → n ≡ length (filter below xs)
    below_level yes' = elim (cases_lt n (length (filter below xs))) [
      | inl less ↦
          absurd (not_both (cmp x like) (ap below is ∙ prefix_len_passes below xs n x (omega (arith, prefix_below xs h))) yes')
      | inr past ↦ omega (arith, prefix_upto xs h, few_level xs h)
    ]

    pub one_level : level x ≡ true → n + 1 ≡ n + length (filter level xs)
    one_level yes' = omega (arith, prefix_upto xs h, below_level yes')

    pub below_other : level x ≡ false → n + 1 ≡ length (filter below xs)
    below_other no' = elim (cases_lt n (length (filter below xs))) [
      | inl less ↦ omega (arith, prefix_upto xs h)
      | inr past ↦
          let here : n ≡ length (filter below xs) = omega (arith, prefix_upto xs h, few_level xs h) in
          let none : filter level xs ≡ [] = level_here xs h n x here within is ∙ ap (λ b. cond b (x ∷ []) []) no' in
          absurd (omega (arith, prefix_upto xs h, ap length none))
    ]

    pub none_other : level x ≡ false → n + 1 ≡ n + 1 + length (filter level xs)
    none_other no' = omega (arith, prefix_upto xs h, below_other no')

  pub none_of_all : (xs : List X) → IsInOrder cmp xs → prefix_len upto xs ≡ 0 → (0 ≡ length (filter below xs)) × (0 ≡ 0 + length (filter level xs))
  none_of_all xs h none = (omega (arith, prefix_upto xs h), omega (arith, prefix_upto xs h))

  pub taken : (xs : List X) → IsInOrder cmp xs → (n : ℕ) → n ≡ length (filter below xs) → take n xs ≡ filter below xs
  taken xs h n start = ap (take n) (parts xs h) ∙ take_at (filter below xs) (filter level xs ++ filter above xs) n (sym start)

  pub dropped : (xs : List X) → IsInOrder cmp xs → (n m : ℕ) → n ≡ length (filter below xs) → m ≡ n + length (filter level xs) → drop m xs ≡ filter above xs
  dropped xs h n m start end =
      let both : length (filter below xs ++ filter level xs) ≡ m = omega (arith, length-append (filter below xs) (filter level xs)) in
      ap (drop m) (parts xs h ∙ sym (append_assoc (filter below xs) (filter level xs) (filter above xs))) ∙ drop_at (filter below xs ++ filter level xs) (filter above xs) m both

  -- without those level the others stay
  pub others : (xs : List X) → IsInOrder cmp xs → filter below xs ++ filter above xs ≡ without_entry cmp like xs
  others [] h = refl
  others (x ∷ xs) h = by (cmp x like) refl (others xs (rest_in_order cmp x xs h))
    where
      by : (rank : Ordering) → cmp x like ≡ rank → filter below xs ++ filter above xs ≡ without_entry cmp like xs → filter below (x ∷ xs) ++ filter above (x ∷ xs) ≡ without_entry cmp like (x ∷ xs)
      by Less is rest = rw is (ap (λ ys. x ∷ ys) rest)
      by Equal is rest = rw is rest
      by Greater is rest =
          let high : All (λ y. cmp y like ≡ Greater) xs = above_behind cmp total like x xs h (λ less. cc) in
          let low : filter below xs ≡ [] = none_below xs high in
          rw (is, low) (ap (λ ys. x ∷ ys) (ap (λ ys. ys ++ filter above xs) (sym low) ∙ rest))

  -- what a change of the place makes
  module _ (xs : List X) (h : IsInOrder cmp xs) (n m : ℕ) (start : n ≡ length (filter below xs)) (end : m ≡ n + length (filter level xs)) where
    pub with_made : (x : X) (made : List X) → like ≡ x → made ≡ take n xs ++ x ∷ drop m xs → made ≡ with_entry cmp x xs
    with_made x made same is =
        let at_like : take n xs ++ like ∷ drop m xs ≡ with_entry cmp like xs = rw (taken xs h n start, dropped xs h n m start end) refl in
        is ∙ (ap (λ e. take n xs ++ e ∷ drop m xs) (sym same) ∙ (at_like ∙ ap (λ e. with_entry cmp e xs) same))

    pub without_made : (made : List X) → made ≡ take n xs ++ drop m xs → made ≡ without_entry cmp like xs
    without_made made is =
        let left : take n xs ++ drop m xs ≡ without_entry cmp like xs = rw (taken xs h n start, dropped xs h n m start end) (others xs h) in
        is ∙ left

  -- what a rank says
  module _ (xs : List X) (h : IsInOrder cmp xs) (n m : ℕ) (rank : IsRank cmp like xs n m) where
    pub rank_in_range : m ≤ length xs
    rank_in_range =
        let low : List X = filter below xs in
        let same : List X = filter level xs in
        let high : List X = filter above xs in
        let all : length xs ≡ length low + (length same + length high) = ap length (parts xs h) ∙ (length-append low (same ++ high) ∙ ap (λ k. length low + k) (length-append same high)) in
        omega (arith, all, rank.below, rank.equal)

    pub rank_taken : (x : X) → n < m → x ≡ get_or xs n x → Some x ≡ find level xs
    rank_taken x some is = found xs h n x rank.below (omega (arith, rank_in_range)) is (omega (arith, rank.equal))

    pub rank_free : m ≤ n → None ≡ find level xs
    rank_free none = found_none xs (omega (arith, rank.equal))

  pub upto_first : (xs : List X) → IsInOrder cmp xs → IsPartitionedBy upto xs
  upto_first xs h = partitioned cmp upto xs h (λ x y less passes. upto_before x y less passes)
    where
      upto_before : (x y : X) → cmp x y ≡ Less → upto y ≡ true → upto x ≡ true
      upto_before x y less passes = grind (arith, common_steps, total)

  -- those below are the first ones
  pub below_first : (xs : List X) → IsInOrder cmp xs → IsPartitionedBy below xs
  below_first xs h = partitioned cmp below xs h (λ x y less passes. ap is_lt (total.trans x y like less (less_from (cmp y like) passes)))
