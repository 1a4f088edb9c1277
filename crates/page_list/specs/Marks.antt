-- Values with their marks, and tests that marks agree with.
use Rattle.std.specs.Prelude.{◌≡◌, ℕ, ◌<◌, Bool, true, false, List, Contains}
use Rattle.std.specs.List.Sorted.{IsPartitionedBy}

-- a value, and the two numbers that are kept beside it: its mark, by which it is sought, and its note
pub record Marked (X : Type 0) : Type 0 where
  pub mark : ℕ
  pub note : ℕ
  pub value : X

abbrev pub mark_of : {X : Type 0} → Marked X → ℕ
mark_of entry = entry.mark

abbrev pub note_of : {X : Type 0} → Marked X → ℕ
note_of entry = entry.note

abbrev pub value_of : {X : Type 0} → Marked X → X
value_of entry = entry.value

-- the value with its own mark and note
abbrev pub marked_by : {X : Type 0} → (X → ℕ) → (X → ℕ) → X → Marked X
marked_by mark note x = record { mark = mark x; note = note x; value = x }

-- p holds of the first entries alone: of each with a lesser mark, of none with a greater one
pub record PartsAtMark {X : Type 0} (mark_of : X → ℕ) (mark : ℕ) (p : X → Bool) (xs : List X) : Type 0 where
  pub first : IsPartitionedBy p xs
  pub lesser : (x : X) → Contains xs x → mark_of x < mark → p x ≡ true
  pub greater : (x : X) → Contains xs x → mark < mark_of x → p x ≡ false
