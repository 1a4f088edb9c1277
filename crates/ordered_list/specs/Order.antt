-- Lists in strict order, and what their changes make of them.
use Rattle.std.specs.Prelude.{◌≡◌, ◌+◌, ℕ, length, not, List, ◌∷◌, ◌++◌, Option}
use Rattle.std.specs.List.{AllPairs, filter, find}
use Rattle.std.specs.Ordering.{is_lt, is_eq, is_gt}
use Rattle.std.specs.declared.cmp.Ordering.{Ordering}
use Rattle.std.specs.declared.cmp.Ordering.TheVariants.{Less}

-- each entry ranks below all later ones
abbrev pub IsInOrder : {X : Type 0} → (X → X → Ordering) → List X → Type 0
IsInOrder cmp xs = AllPairs (λ x y. cmp x y ≡ Less) xs

-- the entry that ranks equal with `like`; in order, there is no other
abbrev pub entry_at : {X : Type 0} → (X → X → Ordering) → X → List X → Option X
entry_at cmp like xs = find (λ x. is_eq (cmp x like)) xs

-- the entries from one place up to another are those that rank equal with `like`, and those before them rank below it
pub record IsRank {X : Type 0} (cmp : X → X → Ordering) (like : X) (xs : List X) (from to : ℕ) : Type 0 where
  pub below : from ≡ length (filter (λ x. is_lt (cmp x like)) xs)
  pub equal : to ≡ from + length (filter (λ x. is_eq (cmp x like)) xs)

-- the entry in its place, between the entries that rank below it and those that rank above it
abbrev pub with_entry : {X : Type 0} → (X → X → Ordering) → X → List X → List X
with_entry cmp entry xs = filter (λ x. is_lt (cmp x entry)) xs ++ entry ∷ filter (λ x. is_gt (cmp x entry)) xs

-- the entries that don't rank equal with `like`
abbrev pub without_entry : {X : Type 0} → (X → X → Ordering) → X → List X → List X
without_entry cmp like xs = filter (λ x. not (is_eq (cmp x like))) xs
