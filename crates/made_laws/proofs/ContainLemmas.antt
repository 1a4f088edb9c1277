-- What is in a list of which each value was kept once, and in two that go together.
use Rattle.std.proofs.Common.{◌≡◌, Bool, not, ◌≤◌, List, [], ◌∷◌, length, Option, Some, None, subst, arith, ⊎_elim}
use Rattle.std.specs.List.{All, AllZip, Contains, filter, flat_map}
use Rattle.std.specs.Option.{option_to_list}
use Rattle.std.proofs.lemmas.List.Elements.{All-head, All-contains, All-contains_itself}
use Rattle.facts.proofs.Lists.{here, there, here_or_there, nothing_in}
use Rattle.dname.specs.Tests.{each_once}
use Rattle.soundness.proofs.OnceLemmas.{all_once}

-- what is kept once was there
pub in_once : {X : Type 0} (alike : X → X → Bool) (xs : List X) (x : X) → Contains (each_once alike xs) x → Contains xs x
in_once alike xs x in' = All-contains (Contains xs) (each_once alike xs) x (all_once alike (Contains xs) xs (All-contains_itself xs)) in'

-- of equal values one is kept
pub one_kept : {X : Type 0} (alike : X → X → Bool) (xs : List X) (x : X) → All (λ y. y ≡ x) xs → Contains xs x → Contains (each_once alike xs) x
one_kept alike [] x all in' = absurd (nothing_in x in')
one_kept {X} alike (y ∷ ys) x all in' =
    subst (λ z. Contains (each_once alike (y ∷ ys)) z) (All-head (λ z. z ≡ x) y ys all) (here y (filter (λ z. not (alike y z)) (each_once alike ys)))

-- ---- lists that go together

-- what some of the second list gives goes with one of the first
pub in_pairs : {X Y : Type 0} (R : X → Option Y → Type 0) (xs : List X) (ys : List (Option Y)) (y : Y) → AllZip R xs ys → Contains (flat_map option_to_list ys) y → (x : X) × Contains xs x × R x (Some y)
in_pairs R [] [] y zip in' = absurd (nothing_in y in')
in_pairs R [] (o ∷ ys) y zip in' = absurd zip
in_pairs R (x ∷ xs) [] y zip in' = absurd zip
in_pairs R (x ∷ xs) (None ∷ ys) y zip in' = let h = in_pairs R xs ys y zip.1 in' in (h.0, there x xs h.0 h.1, h.2)
in_pairs {Y = Y} R (x ∷ xs) (Some z ∷ ys) y zip in' = ⊎_elim
    (λ (same : z ≡ y). (x, here x xs, subst (λ (w : Y). R x (Some w)) same zip.0))
    (λ (more : Contains (flat_map option_to_list ys) y). let h = in_pairs R xs ys y zip.1 more in (h.0, there x xs h.0 h.1, h.2))
    (here_or_there z (flat_map option_to_list ys) y in')

-- the first of two lists that go together
pub first_pair : {X Y : Type 0} (R : X → Y → Type 0) (P : Y → Type 0) (xs : List X) (ys : List Y) → AllZip R xs ys → All P ys → 1 ≤ length ys → (x : X) × (y : Y) × Contains xs x × R x y × P y
first_pair R P [] [] zip all some = absurd (omega (arith, some))
first_pair R P [] (y ∷ ys) zip all some = absurd zip
first_pair R P (x ∷ xs) [] zip all some = absurd zip
first_pair R P (x ∷ xs) (y ∷ ys) zip all some = (x, y, here x xs, zip.0, All-head P y ys all)
