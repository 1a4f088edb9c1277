-- What a clause reads of a shared cache.
use Rattle.std.specs.Prelude.{◌≡◌, ℕ}
use mathlib.Core.List.{IsPrefix}
use Rattle.denial_records.specs.declared.batch.Batch.{Batch}
use Rattle.cache_meaning.specs.Held.{Held}
use Rattle.cache_versions.specs.declared.state.State.{Ghosts}
use Rattle.cache_versions.specs.declared.seat.Seat.{Seat}
use Rattle.cache_versions.specs.declared.place.Note.{Note}
use Rattle.cache_versions.specs.Inserts.{MetFull}
use Rattle.cache_versions.specs.Seats.{kept_by, number_by, places_by, seen_by}
use Rattle.cache_versions.specs.Shares as Shares
use Rattle.resolver.specs.declared.cache_fault.CacheFault.{CacheFault}
use Rattle.resolver.specs.declared.cache_fault.CacheFault.TheVariants.{NumbersSpent, OutOfMemory}
use Rattle.resolver.specs.declared.shared_cache.SharedCache.{SharedCache}

-- how many seats were made with the cache
abbrev pub seats_of : SharedCache → ℕ
seats_of c = Shares.seats_of c.shared

module _ {g : Ghosts Held Batch (Unit {0})} where
  -- the seat was made with the cache
  abbrev pub IsSeatOf : SharedCache → Seat Held Batch (Unit {0}) g → Type 0
  IsSeatOf c s = Shares.IsOf c.shared s

  -- the seat has gone on at its cache: it was made with it, keeps its number, and has seen all that it had seen
  pub record HasGoneOn (c : SharedCache) (before after : Seat Held Batch (Unit {0}) g) : Type 0 where
    pub object : IsSeatOf c after
    pub number : number_by after ≡ number_by before
    pub begins : IsPrefix (seen_by before) (seen_by after)

  -- it has gone on, and has placed nothing
  pub record HasOnlyRead (c : SharedCache) (before after : Seat Held Batch (Unit {0}) g) : Type 0 where
    pub on : HasGoneOn c before after
    pub places : places_by after ≡ places_by before

  -- the note was made with the cache
  abbrev pub IsNoteOf : SharedCache → Note Held Batch (Unit {0}) g → Type 0
  IsNoteOf c n = Shares.IsNoteOf c.shared n

  -- the seat was made with the cache, has seen no batch and has placed none
  abbrev pub IsFreshSeat : SharedCache → Seat Held Batch (Unit {0}) g → Type 0
  IsFreshSeat c s = Shares.IsFresh c.shared s

  -- the seat has seen just the version that was met, which has no room for the batch; after want of
  -- memory it keeps its version. Its places are the same
  abbrev pub NotPlaced :
      Seat Held Batch (Unit {0}) g → Seat Held Batch (Unit {0}) g → Batch → CacheFault → Type 0
  NotPlaced before after batch (NumbersSpent v) = MetFull before after batch v
  NotPlaced before after batch OutOfMemory =
      (kept_by after ≡ kept_by before) × (places_by after ≡ places_by before)
