-- Where a test holds of the first entries alone: they are those that it keeps.
use Rattle.std.proofs.Common.{◌≡◌, zero, suc, ◌+◌, Bool, true, false, true≢false, not, List, [], ◌∷◌, get_or, take, drop, All, filter, refl, sym, ap, ◌∙◌, arith}
use Rattle.std.specs.List.{prefix_len}
use Rattle.std.specs.List.Sorted.{IsPartitionedBy}
use Rattle.facts.proofs.Filters.{filter_all, filter_none}

module _ {X : Type 0} (p : X → Bool) where
  partitioned_rest : (x : X) (xs : List X) → IsPartitionedBy p (x ∷ xs) → IsPartitionedBy p xs
  partitioned_rest x xs h = λ i j d le within passes. h (suc i) (suc j) d (omega arith) (omega arith) passes

  none_behind : (x : X) (xs : List X) → IsPartitionedBy p (x ∷ xs) → p x ≡ false → All (λ y. p y ≡ false) xs
  none_behind x xs h fails = λ k d lt. by (p (get_or xs k d)) (λ passes. h zero (suc k) d (omega arith) (omega arith) passes)
    where
      by : (b : Bool) → (b ≡ true → p x ≡ true) → b ≡ false
      by true first = absurd (true≢false (sym (first refl) ∙ fails))
      by false first = refl

  pub take_prefix : (xs : List X) → IsPartitionedBy p xs → take (prefix_len p xs) xs ≡ filter p xs
  take_prefix [] h = refl
  take_prefix (x ∷ xs) h = by (p x) refl (take_prefix xs (partitioned_rest x xs h))
    where
      by : (b : Bool) → p x ≡ b → take (prefix_len p xs) xs ≡ filter p xs → take (prefix_len p (x ∷ xs)) (x ∷ xs) ≡ filter p (x ∷ xs)
      by true is rest = let more : 1 + prefix_len p xs ≡ suc (prefix_len p xs) = omega arith in rw (is, more) (ap (λ ys. x ∷ ys) rest)
      by false is rest = rw (is, filter_none p xs (none_behind x xs h is)) refl

  pub drop_prefix : (xs : List X) → IsPartitionedBy p xs → drop (prefix_len p xs) xs ≡ filter (λ x. not (p x)) xs
  drop_prefix [] h = refl
  drop_prefix (x ∷ xs) h = by (p x) refl (drop_prefix xs (partitioned_rest x xs h))
    where
      by : (b : Bool) → p x ≡ b → drop (prefix_len p xs) xs ≡ filter (λ y. not (p y)) xs → drop (prefix_len p (x ∷ xs)) (x ∷ xs) ≡ filter (λ y. not (p y)) (x ∷ xs)
      by true is rest = let more : 1 + prefix_len p xs ≡ suc (prefix_len p xs) = omega arith in rw (is, more) rest
      by false is rest = rw is (ap (λ ys. x ∷ ys) (sym (filter_all (λ y. not (p y)) xs (λ k d lt. ap not (none_behind x xs h is k d lt)))))
