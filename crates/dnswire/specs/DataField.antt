-- No public clause cites this module. How the fields of a record's data are written out, one by one.
use Rattle.std.specs.Prelude.{◌≡◌, ℕ, ◌≤◌, List, ◌++◌, Option, Some, None}
use Rattle.dnswire.specs.Data.{IsField}
use Rattle.dnswire.specs.declared.field.Field.{Field}

-- in data that ends before `stop` the field doesn't stand at the offset
abbrev pub IsMissing : List ℕ → ℕ → Field → ℕ → Type 0
IsMissing message stop field at = (octets : List ℕ) (end : ℕ) → IsField message stop field at octets end → end ≤ stop → ⊥

-- the field stands at the offset and ends before `end`; it was written after the octets that there were
pub record HasAppended (message : List ℕ) (stop : ℕ) (field : Field) (at : ℕ) (before after : List ℕ) (end : ℕ) : Type 0 where
  pub octets : List ℕ
  pub stands : IsField message stop field at octets end
  pub within : end ≤ stop
  pub appended : after ≡ before ++ octets

-- the offset after the field that was appended, or none where it is missing
abbrev pub Appends : List ℕ → ℕ → Field → ℕ → List ℕ → List ℕ → Option ℕ → Type 0
Appends message stop field at before after (Some end) = HasAppended message stop field at before after end
Appends message stop field at before after None = IsMissing message stop field at
