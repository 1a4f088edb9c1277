-- No public clause cites this module. How a reader passes over names in a message, run by run, and what it remembers.
use Rattle.std.specs.Prelude.{◌≡◌, ℕ, ◌+◌, ◌-◌, ◌<◌, ◌≤◌, List, ◌++◌, length, drop, get_or, Option, Some, None}
use Rattle.dname.specs.Name.{Label, wire_of}
use Rattle.dname.specs.Read.{written}
use Rattle.dnswire.specs.MessageName.{BeginsWithEnd, BeginsWithLabel, BeginsWithPointer, Reads}
use Rattle.dnswire.specs.declared.label_run.Run.{Run}

-- in a run, what is read from the one offset on are whole labels up to the other, and then what is read from there on
pub record Passed (message : List ℕ) (at here : ℕ) : Type 0 where
  pub order : at ≤ here
  pub goes :
      (start end : ℕ) (labels : List Label) → Reads message start here labels end
      → (all : List Label) × Reads message start at all end
      × (length (wire_of all) ≡ here - at + length (wire_of labels))
  pub back :
      (start end : ℕ) (all : List Label) → Reads message start at all end
      → (labels : List Label) × Reads message start here labels end
      × (length (wire_of all) ≡ here - at + length (wire_of labels))

-- in a run, these labels stand from the one offset up to the other
pub record Stand (message : List ℕ) (at : ℕ) (labels : List Label) (here : ℕ) : Type 0 where
  pub octets : drop at message ≡ written labels ++ drop here message
  pub size : here ≡ at + length (written labels)
  pub goes : (start end : ℕ) (rest : List Label) → Reads message start here rest end → Reads message start at (labels ++ rest) end
  pub back :
      (start end : ℕ) (all : List Label) → Reads message start at all end
      → (rest : List Label) × (all ≡ labels ++ rest) × Reads message start here rest end

-- labels stand from the one offset up to the other, where no label stands
pub record IsRunEnd (message : List ℕ) (at last : ℕ) : Type 0 where
  pub passed : Passed message at last
  pub within : last < length message
  pub no_label : (label : Label) → BeginsWithLabel (drop last message) label → ⊥

-- how a run that begins at the offset ends: with a zero octet, or with a pointer to before it
abbrev pub EndsWith : List ℕ → ℕ → ℕ → Option ℕ → Type 0
EndsWith message at last None = BeginsWithEnd (drop last message)
EndsWith message at last (Some next) = BeginsWithPointer (drop last message) next × (next < at)

-- the run begins at the offset
pub record IsRunAt (message : List ℕ) (at : ℕ) (run : Run) : Type 0 where
  pub passed : Passed message at (at + run.size)
  pub ends : EndsWith message at (at + run.size) run.next

-- whatever is read from the offset on, as a run of its own, has more octets than these
abbrev pub HasNoRoom : List ℕ → ℕ → ℕ → Type 0
HasNoRoom message at room =
    (labels : List Label) (end : ℕ) → Reads message at at labels end → room < length (wire_of labels)

-- what is read from the offset on, as a run of its own, has so many octets
pub record HasSize (message : List ℕ) (at size : ℕ) : Type 0 where
  pub labels : List Label
  pub end : ℕ
  pub reads : Reads message at at labels end
  pub size_is : size ≡ length (wire_of labels)

-- by the offset, the sizes that are remembered; 0 is none
abbrev pub AreSizes : List ℕ → List ℕ → Type 0
AreSizes message sizes =
    (at : ℕ) → 1 ≤ get_or sizes at 0 → HasSize message at (get_or sizes at 0)

-- what is read from the one offset on are labels of so many octets, and then what is read from the other on, each as a run
-- of its own
pub record Leads (message : List ℕ) (from to passed : ℕ) : Type 0 where
  pub goes :
      (labels : List Label) (end : ℕ) → Reads message to to labels end
      → (all : List Label) × (stop : ℕ) × Reads message from from all stop
      × (length (wire_of all) ≡ passed + length (wire_of labels))
  pub back :
      (all : List Label) (stop : ℕ) → Reads message from from all stop
      → (labels : List Label) × (end : ℕ) × Reads message to to labels end
      × (length (wire_of all) ≡ passed + length (wire_of labels))

-- the labels from the one offset on end at the other
pub record HasEnd (message : List ℕ) (at last : ℕ) : Type 0 where
  pub end : IsRunEnd message at last
  pub labels : (labels : List Label) × Stand message at labels last

-- by the offset, the sizes of runs of labels that are kept; 0 is none
abbrev pub AreRunSizes : List ℕ → List ℕ → Type 0
AreRunSizes message sizes = (at : ℕ) → 1 ≤ get_or sizes at 0 → HasEnd message at (at + get_or sizes at 0)
