-- What one datagram does over its worker's seat.
use Rattle.std.specs.Prelude.{◌≡◌, ℕ, ◌%◌, ◌⊎◌, List, [], ◌∷◌, ◌++◌, length, Option, Some, None, Result}
use mathlib.Core.List.{IsPrefix}
use Rattle.dnswire.specs.declared.message.Message.{Message}
use Rattle.denial_records.specs.declared.batch.Batch.{Batch}
use Rattle.cache_meaning.specs.Held.{Held}
use Rattle.cache_versions.specs.declared.state.State.{Ghosts}
use Rattle.cache_versions.specs.declared.seat.Seat.{Seat}
use Rattle.cache_versions.specs.Seats.{kept_by, places_by, seen_by}
use Rattle.intake.specs.Batch.{Gives}
use Rattle.intake.specs.declared.taken.Taken.{Taken}
use Rattle.intake.specs.declared.intake_fault.IntakeFault.{IntakeFault}
use Rattle.serving.specs.Pending.{Slot, without_entry}
use Rattle.outside_core.specs.declared.datagram.Datagram.{Datagram}
use Rattle.serving.specs.declared.deed.Deed.{Deed}
use Rattle.serving.specs.Done.{Done, IsAnswer, IsDone, awaited, batch_in, done_as}

-- the number of the last version that a cache can have
abbrev pub LAST : ℕ
LAST = 4611686018427387903

module _ {g : Ghosts Held Batch (Unit {0})} where
  -- the batch is the last one seen, behind a journal that begins with what the seat had seen. Its place is the seat's last one
  pub record IsPlaced (before after : Seat Held Batch (Unit {0}) g) (batch : Batch) : Type 0 where
    pub former : List Batch
    pub begins : IsPrefix (seen_by before) former
    pub seen : seen_by after ≡ former ++ batch ∷ []
    pub places : places_by after ≡ places_by before ++ length former ∷ []

  -- the seat has seen the last version, and no number was left for another
  pub record IsSpent (before after : Seat Held Batch (Unit {0}) g) : Type 0 where
    pub last : length (seen_by after) ≡ LAST
    pub places : places_by after ≡ places_by before

  -- what became of the batch; where there is none the places stay
  abbrev pub IsKept : Seat Held Batch (Unit {0}) g → Seat Held Batch (Unit {0}) g → Option Batch → Type 0
  IsKept before after None = places_by after ≡ places_by before
  IsKept before after (Some batch) = IsPlaced before after batch ⊎ IsSpent before after

  -- what intake takes of the octets is placed, if it takes anything
  abbrev pub Stores : ℕ → Seat Held Batch (Unit {0}) g → Seat Held Batch (Unit {0}) g → List ℕ → Type 0
  Stores now before after octets =
      (given : Result Taken IntakeFault) × Gives octets now given × IsKept before after (batch_in given)

  -- the datagram was done at the version that the seat has then seen
  pub record Serves (now : ℕ) (before after : Seat Held Batch (Unit {0}) g) (table : List Slot) (datagram : Datagram) (done : Done) : Type 0 where
    pub begins : IsPrefix (seen_by before) (seen_by after)
    pub does : IsDone table now (seen_by after) datagram done
    pub kept : IsKept before after done.batch

  -- with this deed, these octets sent and this table
  abbrev pub DoesServe :
      ℕ → Seat Held Batch (Unit {0}) g → Seat Held Batch (Unit {0}) g → List Slot → Datagram → Deed → List ℕ → List Slot → Type 0
  DoesServe now before after table datagram deed octets table' =
      (batch : Option Batch)
      × Serves now before after table datagram (done_as deed octets table' batch)

  -- the seat keeps its version and its places
  abbrev pub IsUnmoved : Seat Held Batch (Unit {0}) g → Seat Held Batch (Unit {0}) g → Type 0
  IsUnmoved before after = (kept_by after ≡ kept_by before) × (places_by after ≡ places_by before)

-- the table is as before, or the query is gone which the octets answer
abbrev pub IsLeft : List Slot → List ℕ → List Slot → Type 0
IsLeft table octets table' =
    (table' ≡ table)
    ⊎ ((message : Message) × IsAnswer octets (Some message)
    × (table' ≡ without_entry table (message.id % 256) (awaited table message)))
