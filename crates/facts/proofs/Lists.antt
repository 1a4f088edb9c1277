-- What is in a list, and the parts of two lists that are equal.
use Rattle.std.proofs.Common.{◌≡◌, ℕ, zero, suc, ◌<◌, ◌⊎◌, inl, inr, List, [], ◌∷◌, ◌++◌, length, Contains, All, Some, refl, sym, arith}
use Rattle.std.specs.Prelude.{slice_index_or}
use Rattle.std.specs.List.{slice_get}
use Rattle.std.proofs.lemmas.List.Elements.{Contains-get_or}

-- ---- what a list of one more has in it

pub here : {X : Type 0} (x : X) (xs : List X) → Contains (x ∷ xs) x
here x xs = (zero, omega arith, refl)

pub there : {X : Type 0} (y : X) (xs : List X) (x : X) → Contains xs x → Contains (y ∷ xs) x
there y xs x (k, within, is) = (suc k, omega arith, is)

pub nothing_in : {X : Type 0} (x : X) → Contains [] x → ⊥
nothing_in x (k, within, is) = omega arith

pub here_or_there : {X : Type 0} (y : X) (xs : List X) (x : X) → Contains (y ∷ xs) x → (y ≡ x) ⊎ Contains xs x
here_or_there y xs x (zero, within, is) = inl is
here_or_there y xs x (suc k, within, is) = inr (k, omega arith, is)

-- the same, read from the member
pub first_or_there : {X : Type 0} (y : X) (xs : List X) (x : X) → Contains (y ∷ xs) x → (x ≡ y) ⊎ Contains xs x
first_or_there y xs x (zero, within, is) = inl (sym is)
first_or_there y xs x (suc k, within, is) = inr (k, omega arith, is)

-- ---- what holds of each element

pub all_by_member : {X : Type 0} (P : X → Type 0) (xs : List X) → ((x : X) → Contains xs x → P x) → All P xs
all_by_member P xs each = λ k d within. each (slice_index_or xs k d) (Contains-get_or xs k d within)

pub all_one : {X : Type 0} (P : X → Type 0) (x : X) → P x → All P (x ∷ [])
all_one P x holds zero d within = holds
all_one P x holds (suc k) d within = absurd (omega arith)

-- ---- the parts of equal lists

pub same_head : {X : Type 0} (x y : X) (xs ys : List X) → x ∷ xs ≡ y ∷ ys → x ≡ y
same_head x y xs ys same = cc

pub same_tail : {X : Type 0} (x y : X) (xs ys : List X) → x ∷ xs ≡ y ∷ ys → xs ≡ ys
same_tail x y xs ys same = cc

-- ---- places

-- a list with a place has an element
pub some_of : {X : Type 0} (xs : List X) (k : ℕ) → k < length xs → X
some_of [] k within = absurd (omega arith)
some_of (x ∷ xs) k within = x

-- what was put behind a list stands at its former length
pub at_end : {X : Type 0} (xs : List X) (x : X) → slice_get (xs ++ x ∷ []) (length xs) ≡ Some x
at_end [] x = refl
at_end (y ∷ xs) x = at_end xs x
