-- What is in a list after an element is put in or some are left out.
use Rattle.std.proofs.Common.{◌≡◌, ◌+◌, ◌⊎◌, inl, inr, ◌↔◌, Bool, true, false, List, [], ◌∷◌, length, if◌then◌else◌, refl, subst, arith}
use Rattle.std.specs.List.{Contains, filter}
use Rattle.std.specs.declared.cmp.Ordering.{Ordering}
use Rattle.facts.proofs.Lists.{here, there, first_or_there}
use Rattle.facts.proofs.Filters.{kept, was_kept}
use Rattle.range_index.specs.Arcs.{starts_before, is_apart, inserted, arcs_with}
use Rattle.range_index.proofs.OrderLemmas.{either}

one_of : {X : Type 0} (y : X) (xs : List X) (x : X) → (x ≡ y) ⊎ Contains xs x → Contains (y ∷ xs) x
one_of y xs x (inl same) = subst (λ z. Contains (z ∷ xs) x) same (here x xs)
one_of y xs x (inr h) = there y xs x h

module _ {X : Type 0} (p : X → Bool) where
  module _ (new : X) where
    pub inserted_has : (xs : List X) (x : X) → (x ≡ new) ⊎ Contains xs x → Contains (inserted p new xs) x
    inserted_has [] x h = one_of new [] x h
    inserted_has (y ∷ xs) x h =
        either (p y) (λ e. rw e (behind h (inserted_has xs x))) (λ e. rw e (one_of new (y ∷ xs) x h))
      where
        behind : (x ≡ new) ⊎ Contains (y ∷ xs) x → ((x ≡ new) ⊎ Contains xs x → Contains (inserted p new xs) x) → Contains (y ∷ inserted p new xs) x
        behind (inl same) rest = there y (inserted p new xs) x (rest (inl same))
        behind (inr k) rest = at (first_or_there y xs x k)
          where
            at : (x ≡ y) ⊎ Contains xs x → Contains (y ∷ inserted p new xs) x
            at (inl same) = one_of y (inserted p new xs) x (inl same)
            at (inr l) = there y (inserted p new xs) x (rest (inr l))

    pub has_inserted : (xs : List X) (x : X) → Contains (inserted p new xs) x → (x ≡ new) ⊎ Contains xs x
    has_inserted [] x h = first_or_there new [] x h
    has_inserted (y ∷ xs) x h = by (p y) h (has_inserted xs x)
      where
        by : (b : Bool) → Contains (if b then y ∷ inserted p new xs else new ∷ y ∷ xs) x → (Contains (inserted p new xs) x → (x ≡ new) ⊎ Contains xs x) → (x ≡ new) ⊎ Contains (y ∷ xs) x
        by false k rest = first_or_there new (y ∷ xs) x k
        by true k rest = at (first_or_there y (inserted p new xs) x k)
          where
            later : (x ≡ new) ⊎ Contains xs x → (x ≡ new) ⊎ Contains (y ∷ xs) x
            later (inl same) = inl same
            later (inr l) = inr (there y xs x l)

            at : (x ≡ y) ⊎ Contains (inserted p new xs) x → (x ≡ new) ⊎ Contains (y ∷ xs) x
            at (inl same) = inr (one_of y xs x (inl same))
            at (inr l) = later (rest l)

    pub length-inserted : (xs : List X) → length (inserted p new xs) ≡ length xs + 1
    length-inserted [] = refl
    length-inserted (y ∷ xs) =
        either (p y) (λ e. rw e (omega (arith, length-inserted xs))) (λ e. rw e (omega arith))

module _ {S K : Type 0} (cmp : K → K → Ordering) (start end : S → K) (new : S) (spans : List S) where
  pub members_with : (span : S) → Contains (arcs_with cmp start end new spans) span ↔ ((span ≡ new) ⊎ (Contains spans span × (is_apart cmp start end new span ≡ true)))
  members_with span = (λ h. there_too (has_inserted (starts_before cmp start new) new (filter (is_apart cmp start end new) spans) span h), λ h. inserted_has (starts_before cmp start new) new (filter (is_apart cmp start end new) spans) span (from h))
    where
      there_too : (span ≡ new) ⊎ Contains (filter (is_apart cmp start end new) spans) span → (span ≡ new) ⊎ (Contains spans span × (is_apart cmp start end new span ≡ true))
      there_too (inl same) = inl same
      there_too (inr h) = inr (was_kept (is_apart cmp start end new) spans span h)

      from : (span ≡ new) ⊎ (Contains spans span × (is_apart cmp start end new span ≡ true)) → (span ≡ new) ⊎ Contains (filter (is_apart cmp start end new) spans) span
      from (inl same) = inl same
      from (inr (has, apart)) = inr (kept (is_apart cmp start end new) spans span has apart)

  pub count_with : length (arcs_with cmp start end new spans) ≡ length (filter (is_apart cmp start end new) spans) + 1
  count_with = length-inserted (starts_before cmp start new) new (filter (is_apart cmp start end new) spans)
