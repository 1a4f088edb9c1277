-- No public clause cites this module. Names in a message written out once, and kept by the offsets to which pointers go.
use Rattle.std.specs.Prelude.{◌≡◌, ℕ, ◌+◌, ◌≤◌, List, ◌++◌, length, take, drop, get_or}
use Rattle.dname.specs.Name.{Label, wire_of}
use Rattle.dnswire.specs.Data.{IsWrittenOut}
use Rattle.dnswire.specs.MessageName.{Reads}
use Rattle.dnswire.specs.Runs.{AreRunSizes}
use Rattle.dnswire.specs.declared.name_table.NameTable.{NameTable}
use Rattle.dnswire.specs.declared.name_table.Extent.{Extent}

-- what is read from the offset on, as a run of its own, written out
abbrev pub HasOctets : List ℕ → ℕ → List ℕ → Type 0
HasOctets message at octets = (end : ℕ) × IsWrittenOut message at octets end

-- what is read from the one offset on are the labels with these octets, and then what is read from the other on, each as a
-- run of its own
pub record Expands (message : List ℕ) (from to : ℕ) (octets : List ℕ) : Type 0 where
  pub goes :
      (labels : List Label) (end : ℕ) → Reads message to to labels end
      → (all : List Label) × (stop : ℕ) × Reads message from from all stop × (wire_of all ≡ octets ++ wire_of labels)
  pub back :
      (all : List Label) (stop : ℕ) → Reads message from from all stop
      → (labels : List Label) × (end : ℕ) × Reads message to to labels end × (wire_of all ≡ octets ++ wire_of labels)

-- nothing is kept
abbrev pub nowhere : Extent
nowhere = record { start = 0; size = 0 }

abbrev pub octets_in : List ℕ → Extent → List ℕ
octets_in kept extent = take extent.size (drop extent.start kept)

-- the extent has octets, and they are what is read from the offset on
pub record IsKept (message kept : List ℕ) (at : ℕ) (extent : Extent) : Type 0 where
  pub within : extent.start + extent.size ≤ length kept
  pub octets : HasOctets message at (octets_in kept extent)

-- by the offset, the extents of what is kept; one without octets is none
abbrev pub AreKept : List ℕ → List ℕ → List Extent → Type 0
AreKept message kept extents =
    (at : ℕ) → 1 ≤ (get_or extents at nowhere).size → IsKept message kept at (get_or extents at nowhere)

pub record IsTableOf (message : List ℕ) (table : NameTable) : Type 0 where
  pub kept : AreKept message table.octets.items table.extents.items
  pub runs : AreRunSizes message table.runs.items
