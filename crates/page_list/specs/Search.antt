-- No public clause cites this module.
use Rattle.std.specs.Prelude.{◌≡◌, ℕ, ◌-◌, ◌<◌, ◌≤◌, Bool, true, false, List, length, get_or, take}
use Rattle.std.specs.List.{flat_map}
use Rattle.std.specs.Fn.{FnReturnsAt}
use Rattle.std.specs.List.Sorted.{IsPartitionedBy}
use Rattle.page_list.specs.Marks.{Marked, mark_of, PartsAtMark}
use denote.Ref.{Bor}
use denote.Param.Members.{Shared}

-- each call of the closure f at a value answers as the test p does of the entry
abbrev pub IsTestOf : {F X : Type 0} → Shared F (Bor X × Unit {0}) Bool → F → (Marked X → Bool) → Type 0
IsTestOf {F} {X} g f p = (entry : Marked X) (r : Bool) → FnReturnsAt g f entry.value r → r ≡ p entry

-- the same, where the marks of entries agree with the test
pub record IsTestAt {F X : Type 0} (g : Shared F (Bor X × Unit {0}) Bool) (f : F) (mark : ℕ) (entries : List (Marked X)) (p : Marked X → Bool) : Type 0 where
  pub answers : IsTestOf g f p
  pub parts : PartsAtMark mark_of mark p entries

-- by each test that holds of the first entries alone: it holds before low, and fails from high on
pub record HasNarrowed {X : Type 0} (xs : List X) (IsTest : (X → Bool) → Type 0) (low high : ℕ) : Type 0 where
  pub order : low ≤ high
  pub in_range : high ≤ length xs
  pub below : (p : X → Bool) → IsTest p → IsPartitionedBy p xs → (k : ℕ) (d : X) → k < low → p (get_or xs k d) ≡ true
  pub above : (p : X → Bool) → IsTest p → IsPartitionedBy p xs → (k : ℕ) (d : X) → high ≤ k → k < length xs → p (get_or xs k d) ≡ false

-- of so many entries at the front it is the last one
pub record IsLastOf {X : Type 0} (xs : List X) (count : ℕ) (x : X) : Type 0 where
  pub some : 0 < count
  pub here : x ≡ get_or xs (count - 1) x

-- the entry before the place has a lesser mark, if there is one
pub record IsBehindLesser {X : Type 0} (mark : ℕ) (entries : List (Marked X)) (place : ℕ) : Type 0 where
  pub in_range : place ≤ length entries
  pub lesser : (d : Marked X) → 0 < place → mark_of (get_or entries (place - 1) d) < mark

-- the first entry of the block p has a lesser mark
pub record BeginsLesser {X Y : Type 0} (entries_of : Y → List (Marked X)) (blocks : List Y) (mark p : ℕ) : Type 0 where
  pub in_range : length (flat_map entries_of (take p blocks)) < length (flat_map entries_of blocks)
  pub lesser : (d : Marked X) → mark_of (get_or (flat_map entries_of blocks) (length (flat_map entries_of (take p blocks))) d) < mark

-- the first entry of the block p has a greater mark
pub record BeginsGreater {X Y : Type 0} (entries_of : Y → List (Marked X)) (blocks : List Y) (mark p : ℕ) : Type 0 where
  pub in_range : length (flat_map entries_of (take p blocks)) < length (flat_map entries_of blocks)
  pub greater : (d : Marked X) → mark < mark_of (get_or (flat_map entries_of blocks) (length (flat_map entries_of (take p blocks))) d)
