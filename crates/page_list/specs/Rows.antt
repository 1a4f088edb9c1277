-- No public clause cites this module.
use Rattle.std.specs.Prelude.{◌≡◌, ℕ, ◌+◌, ◌-◌, ◌<◌, ◌≤◌, List, ◌++◌, length, get_or, take, drop, map, slice_index}
use Rattle.std.specs.List.{flat_map}

-- for each block, how many entries there are up to its end
pub record IsEnds {X A : Type 0} (f : X → List A) (xs : List X) (ends : List ℕ) : Type 0 where
  pub one_each : length ends ≡ length xs
  pub sums : (k : ℕ) → k < length xs → slice_index ends k ≡ length (flat_map f (take (k + 1) xs))

-- each block has an entry, and the mark of its first one stands in marks
pub record IsFirstMarks {X A : Type 0} (mark_of : A → ℕ) (f : X → List A) (xs : List X) (marks : List ℕ) : Type 0 where
  pub one_each : length marks ≡ length xs
  pub some : (k : ℕ) (d : X) → k < length xs → 0 < length (f (get_or xs k d))
  pub first : (k : ℕ) (d : X) (a : A) → k < length xs → slice_index marks k ≡ mark_of (get_or (f (get_or xs k d)) 0 a)

-- the entry `at` of all blocks is the entry x of the block p
pub record IsPlace {X A : Type 0} (f : X → List A) (xs : List X) (at p x : ℕ) : Type 0 where
  pub in_range : p < length xs
  pub before : length (flat_map f (take p xs)) + x ≡ at
  pub within : (d : X) → x < length (f (get_or xs p d))

-- before the entry `at` of all blocks stand the blocks before p and the first x entries of the block p
pub record IsSeam {X A : Type 0} (f : X → List A) (xs : List X) (at p x : ℕ) : Type 0 where
  pub in_range : p < length xs
  pub within : (d : X) → x ≤ length (f (get_or xs p d))
  pub left : (d : X) → take at (flat_map f xs) ≡ flat_map f (take p xs) ++ take x (f (get_or xs p d))
  pub right : (d : X)
      → drop at (flat_map f xs) ≡ drop x (f (get_or xs p d)) ++ flat_map f (drop (p + 1) xs)

-- a block with how many entries there are up to its end, and the mark of its first one
pub record Shelved (X : Type 0) : Type 0 where
  pub block : X
  pub end : ℕ
  pub mark : ℕ

abbrev pub block_of : {X : Type 0} → Shelved X → X
block_of slot = slot.block

abbrev pub end_of : {X : Type 0} → Shelved X → ℕ
end_of slot = slot.end

abbrev pub first_mark_of : {X : Type 0} → Shelved X → ℕ
first_mark_of slot = slot.mark

-- the same with `new` entries up to its end in place of `old` of them
abbrev pub shifted : {X : Type 0} → ℕ → ℕ → Shelved X → Shelved X
shifted old new slot = record { block = slot.block; end = slot.end - old + new; mark = slot.mark }

-- the block behind `start` entries
pub record IsShelved {X A : Type 0} (mark_of : A → ℕ) (f : X → List A) (block : X) (start : ℕ) (slot : Shelved X) : Type 0 where
  pub same : slot.block ≡ block
  pub long : slot.end ≡ start + length (f block)
  pub some : 0 < length (f block)
  pub first : (a : A) → slot.mark ≡ mark_of (get_or (f block) 0 a)

-- each block has its end and its mark
pub record IsShelf {X A : Type 0} (mark_of : A → ℕ) (f : X → List A) (slots : List (Shelved X)) : Type 0 where
  pub ends : IsEnds f (map block_of slots) (map end_of slots)
  pub marks : IsFirstMarks mark_of f (map block_of slots) (map first_mark_of slots)
