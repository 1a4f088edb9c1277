-- No public clause cites this module. Where the reading of a name in a message stands, label by label.
use Rattle.std.specs.Prelude.{◌≡◌, ℕ, ◌+◌, ◌<◌, ◌≤◌, List, ◌∷◌, length, Option, None}
use Rattle.std.specs.Option.{unwrap_or}
use Rattle.dname.specs.Name.{Label, HasLabelLength, wire_of}
use Rattle.dnswire.specs.MessageName.{Reads}

-- the next piece stands at an offset in a run of labels; where a pointer was followed, the offset after the name is known;
-- the labels that came have so many octets, their length octets among them
pub record LabelsLeft : Type 0 where
  pub message : List ℕ
  pub start : ℕ
  pub at : ℕ
  pub ended : Option ℕ
  pub size : ℕ

-- before the first label of the name at the offset
abbrev pub first_of : List ℕ → ℕ → LabelsLeft
first_of message at = record { message = message; start = at; at = at; ended = None; size = 0 }

-- these labels are left: with those that came they fit a name, which ends before `end`
pub record AreLeft (left : LabelsLeft) (labels : List Label) (end : ℕ) : Type 0 where
  pub stop : ℕ
  pub reads : Reads left.message left.start left.at labels stop
  pub end_is : end ≡ unwrap_or left.ended stop
  pub fits : left.size + length (wire_of labels) ≤ 255

-- no labels are left with which there would be a name
abbrev pub AreNoneLeft : LabelsLeft → Type 0
AreNoneLeft left = (labels : List Label) (end : ℕ) → AreLeft left labels end → ⊥

-- the label is the next, and those after it are left
pub record IsNextLabel (before : LabelsLeft) (label : Label) (after : LabelsLeft) : Type 0 where
  pub sized : HasLabelLength label
  pub count : after.size ≡ before.size + 1 + length label
  pub room : after.size ≤ 254
  pub goes : (labels : List Label) (end : ℕ) → AreLeft after labels end → AreLeft before (label ∷ labels) end
  pub only :
      (labels : List Label) (end : ℕ) → AreLeft before labels end
      → (rest : List Label) × (labels ≡ label ∷ rest) × AreLeft after rest end

-- a pointer was followed to before its run of labels, and no label was taken off
pub record IsFollowed (before : LabelsLeft) (offset : ℕ) (after : LabelsLeft) : Type 0 where
  pub earlier : offset < before.start
  pub start : after.start ≡ offset
  pub size : after.size ≡ before.size
  pub goes : (labels : List Label) (end : ℕ) → AreLeft after labels end → AreLeft before labels end
  pub back : (labels : List Label) (end : ℕ) → AreLeft before labels end → AreLeft after labels end
