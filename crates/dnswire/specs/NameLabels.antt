-- No public clause cites this module. What the reader of a name in a message finds next.
use Rattle.std.specs.Prelude.{ℕ, List, [], Option, Some, None}
use Rattle.dname.specs.Name.{Label}
use Rattle.dnswire.specs.MessageName.{BeginsWithEnd, BeginsWithLabel, BeginsWithPointer}
use Rattle.dnswire.specs.LabelsLeft.{LabelsLeft, AreLeft, AreNoneLeft, IsNextLabel}
use Rattle.dnswire.specs.declared.name_labels.NameStep.{NameStep}
use Rattle.dnswire.specs.declared.name_labels.NameStep.TheVariants as step
use Rattle.dnswire.specs.declared.name_labels.Piece.{Piece}
use Rattle.dnswire.specs.declared.name_labels.Piece.TheVariants as piece

-- the octets begin with the piece
abbrev pub BeginsWithPiece : List ℕ → Piece → Type 0
BeginsWithPiece octets piece.End = BeginsWithEnd octets
BeginsWithPiece octets (piece.Label label) = BeginsWithLabel octets label.now
BeginsWithPiece octets (piece.Pointer offset) = BeginsWithPointer octets offset

-- the octets begin with no piece
pub record HasNoPiece (octets : List ℕ) : Type 0 where
  pub no_end : BeginsWithEnd octets → ⊥
  pub no_label : (label : Label) → BeginsWithLabel octets label → ⊥
  pub no_pointer : (offset : ℕ) → BeginsWithPointer octets offset → ⊥

-- what is next, and what is left after it
abbrev pub IsStep : LabelsLeft → Option NameStep → LabelsLeft → Type 0
IsStep before None after = AreNoneLeft before
IsStep before (Some (step.Label label)) after = IsNextLabel before label.now after
IsStep before (Some (step.End end)) after = AreLeft before [] end
