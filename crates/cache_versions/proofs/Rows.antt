-- One more seat in a row.
use Rattle.std.proofs.Common.{◌≡◌, ℕ, zero, suc, ◌<◌, List, [], ◌∷◌, ◌++◌, length, slice_index_or, sym, ◌∙◌, append-nil, arith}
use Rattle.cache_versions.specs.declared.state.State.{Ghosts}
use Rattle.cache_versions.specs.declared.seat.Seat.{Seat}
use Rattle.cache_versions.specs.Rows.{AreNumbered}
use Rattle.cache_versions.specs.Seats.{number_by}

-- a fact of each place of a list, and of what is put behind it
pub each_snoc : {A : Type 0} (P : ℕ → A → Type 0) (xs : List A) (x : A) → ((i : ℕ) (d : A) → i < length xs → P i (slice_index_or xs i d)) → P (length xs) x
    → (i : ℕ) (d : A) → i < length (xs ++ x ∷ []) → P i (slice_index_or (xs ++ x ∷ []) i d)
each_snoc P [] x all last zero d h = last
each_snoc P [] x all last (suc i) d h = absurd (omega arith)
each_snoc P (y ∷ ys) x all last zero d h = all zero d (omega arith)
each_snoc P (y ∷ ys) x all last (suc i) d h = each_snoc (λ j a. P (suc j) a) ys x (λ j e k. all (suc j) e (omega arith)) last i d (omega arith)

module _ {S B F : Type 0} {g : Ghosts S B F} where
  pub numbered_snoc : (seats : List (Seat S B F g)) (s : Seat S B F g) → AreNumbered seats → number_by s ≡ length seats → AreNumbered (seats ++ s ∷ [])
  numbered_snoc seats s row last = each_snoc (λ (i : ℕ) (t : Seat S B F g). number_by t ≡ i) seats s row last

-- what a loop over a whole list has seen
pub yielded_all : {A : Type 0} (ys rest all : List A) (n : ℕ) → ys ++ rest ≡ all → n ≡ length rest → n ≡ 0 → ys ≡ all
yielded_all ys [] all n whole len zero_left = sym (append-nil ys) ∙ whole
yielded_all ys (x ∷ rest) all n whole len zero_left = absurd (omega arith)
