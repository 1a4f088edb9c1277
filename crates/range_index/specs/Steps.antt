-- No public clause cites this module.
use Rattle.std.specs.Prelude.{◌≡◌, ◌+◌, ◌<◌, ◌≤◌, ℕ, length, Bool, false, true, List, [], ◌∷◌, ◌++◌, take, drop}
use Rattle.std.specs.List.{AllWithin, HoldsAt, filter, slice_index_or}
use Rattle.std.specs.declared.cmp.Ordering.{Ordering}
use Rattle.std.specs.declared.cmp.Ordering.TheVariants.{Less, Greater}
use Rattle.range_index.specs.Arcs.{FailInRuns}

-- only the element at the place can pass p; `says` is whether it passes q
pub record IsCandidate {X : Type 0} (p q : X → Bool) (xs : List X) (place : ℕ) (says : Bool) : Type 0 where
  pub in_range : place < length xs
  pub earlier : AllWithin (λ x. p x ≡ false) xs 0 place
  pub later : AllWithin (λ x. p x ≡ false) xs (place + 1) (length xs)
  pub here : HoldsAt (λ x. says ≡ q x) xs place

-- those that pass are the ones before one place, and from another on
pub record IsCut {X : Type 0} (p : X → Bool) (xs : List X) (from to : ℕ) : Type 0 where
  pub order : from ≤ to
  pub in_range : to ≤ length xs
  pub is : take from xs ++ drop to xs ≡ filter p xs

-- the places from low up to high, without the last of them if that passes the test: those up to `kept`
pub record IsTrimmed {X : Type 0} (p : X → Bool) (xs : List X) (low high kept : ℕ) : Type 0 where
  pub above : low ≤ kept
  pub order : kept ≤ high
  pub passes : AllWithin (λ x. p x ≡ true) xs kept high
  pub fails : (k : ℕ) (d : X) → low ≤ k → high ≤ k + 1 → k < kept → p (slice_index_or xs k d) ≡ false

-- the new element stands in the place of the first run
pub record IsPlainMet {X : Type 0} (p : X → Bool) (xs : List X) (new : X) (made : List X) (from to last : ℕ) : Type 0 where
  pub runs : FailInRuns p xs from to last
  pub is : take from (take last xs) ++ new ∷ drop to (take last xs) ≡ made

-- the first run is at the front, and the new element comes last
pub record IsOverMet {X : Type 0} (p : X → Bool) (xs : List X) (new : X) (made : List X) (to last : ℕ) : Type 0 where
  pub runs : FailInRuns p xs 0 to last
  pub is : drop to (take last xs) ++ new ∷ [] ≡ made

-- what the marks of a key and of a span's two keys tell of how these compare
pub record Tell {S K : Type 0} (cmp : K → K → Ordering) (start end : S → K) (key : K) (span : S) (of_key of_start of_end : ℕ) : Type 0 where
  pub starts : of_start < of_key → cmp (start span) key ≡ Less
  pub ends_behind : of_key < of_end → cmp (end span) key ≡ Greater
  pub ends_before : of_end < of_key → cmp (end span) key ≡ Less
  pub plain : of_start < of_end → cmp (start span) (end span) ≡ Less
  pub over : of_end < of_start → cmp (start span) (end span) ≡ Greater
