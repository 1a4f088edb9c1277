-- A name in a message, whose end may be a pointer to where its rest stands (RFC 1035, section 4.1.4).
use Rattle.std.specs.Prelude.{◌≡◌, ℕ, ◌+◌, ◌-◌, ◌*◌, ◌<◌, ◌≤◌, List, [], ◌∷◌, ◌++◌, length, drop, map}
use Rattle.dname.specs.Name.{Label, HasLabelLength, lowered, wire_of}

-- a zero octet stands at the front
pub record BeginsWithEnd (octets : List ℕ) : Type 0 where
  pub rest : List ℕ
  pub stands : octets ≡ 0 ∷ rest

-- a label stands at the front, after its length octet
pub record BeginsWithLabel (octets : List ℕ) (label : Label) : Type 0 where
  pub rest : List ℕ
  pub stands : octets ≡ length label ∷ (label ++ rest)
  pub size : HasLabelLength label

-- a pointer stands at the front: two octets, the first two bits ones, the other 14 the offset
pub record BeginsWithPointer (octets : List ℕ) (offset : ℕ) : Type 0 where
  pub first : ℕ
  pub second : ℕ
  pub rest : List ℕ
  pub stands : octets ≡ first ∷ second ∷ rest
  pub marked : 192 ≤ first
  pub offset_is : offset ≡ (first - 192) * 256 + second

-- from offset `at` of the run of octets that begins at `start`, these labels are read, and what stands there ends before
-- `end`; a pointer goes to an offset before its run, where a run of its own begins
pub data Reads (message : List ℕ) : ℕ → ℕ → List Label → ℕ → Type 0 where
  closed : (start at end : ℕ) → BeginsWithEnd (drop at message) → end ≡ at + 1 → Reads message start at [] end
  labelled :
      (start at end : ℕ) (label : Label) (labels : List Label) → BeginsWithLabel (drop at message) label
      → Reads message start (at + 1 + length label) labels end → Reads message start at (label ∷ labels) end
  pointed :
      (start at end offset stop : ℕ) (labels : List Label) → BeginsWithPointer (drop at message) offset → offset < start
      → Reads message offset offset labels stop → end ≡ at + 2 → Reads message start at labels end

-- the name stands at the offset, in whatever case its letters come, and what stands there ends before `end`
pub record NameAt (message : List ℕ) (at : ℕ) (name : List Label) (end : ℕ) : Type 0 where
  pub labels : List Label
  pub reads : Reads message at at labels end
  pub fits : length (wire_of labels) ≤ 255
  pub lower : name ≡ map lowered labels
