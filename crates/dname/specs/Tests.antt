-- Tests of names and lists that compute.
use Rattle.std.specs.Prelude.{Bool, not, nat_eq, List, [], ◌∷◌, filter, ℕ}
use Rattle.std.specs.List.{ends_with}
use Rattle.std.specs.Cmp.Lexicographic.{pointwise}
use Rattle.dname.specs.Name.{Label}

-- whether two names are equal
abbrev pub same_name : List Label → List Label → Bool
same_name = pointwise (pointwise nat_eq)

-- whether octets are equal, one by one
abbrev pub same_octets : List ℕ → List ℕ → Bool
same_octets = pointwise nat_eq

-- whether the name is at or below the other
abbrev pub is_under : List Label → List Label → Bool
is_under name other = ends_with (pointwise nat_eq) name other

-- of those that are alike the first alone, in order
abbrev pub each_once : {X : Type 0} → (X → X → Bool) → List X → List X
each_once alike [] = []
each_once alike (x ∷ xs) = x ∷ filter (λ y. not (alike x y)) (each_once alike xs)
