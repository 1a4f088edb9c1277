-- What a clause reads of a shared object.
use Rattle.std.specs.Prelude.{◌≡◌, ℕ, []}
use Rattle.logbook.specs.declared.tokens.Seen.{Seen}
use Rattle.left_right.specs.declared.Absorb.{Ghosts}
use Rattle.tied_lock.specs.Locked.{key_of}
use Rattle.cache_versions.specs.declared.book.Law.{Law}
use Rattle.cache_versions.specs.declared.state.State
use Rattle.cache_versions.specs.declared.version.Version.{Version}
use Rattle.cache_versions.specs.declared.version.Recorded.{Recorded}
use Rattle.cache_versions.specs.declared.shared.Shared.{Shared}
use Rattle.cache_versions.specs.declared.seat.Seat.{Seat}
use Rattle.cache_versions.specs.declared.place.Note.{Note}
use Rattle.cache_versions.specs.Dealers.{IsHandOf, hands_of}
use Rattle.cache_versions.specs.Kin.{Kin, opening_of}
use Rattle.cache_versions.specs.Seats.{kept_by, seen_by, places_by}

abbrev Shows : Type 0 → Type 0 → Type 1
Shows S B = Ghosts (Recorded S B) (Recorded S B) (Version S × Seen B ℕ Law)

module _ {S B F : Type 0} {a : Shows S B} where
  -- the version that the object began with
  abbrev pub first_of : Shared S B F a → Recorded S B
  first_of o = key_of o.lock

  -- the state that no batch has made
  abbrev pub start_of : Shared S B F a → S
  start_of o = opening_of (first_of o)

  -- how many seats were made with the object
  abbrev pub seats_of : Shared S B F a → ℕ
  seats_of o = hands_of o.dealer

module _ {S B F : Type 0} {g : State.Ghosts S B F} {a : Shows S B} where
  -- the seat was made with the object
  abbrev pub IsOf : Shared S B F a → Seat S B F g → Type 0
  IsOf o s = Kin (first_of o) (kept_by s) × IsHandOf o.dealer s.hand

  -- the note was made with the object
  abbrev pub IsNoteOf : Shared S B F a → Note S B F g → Type 0
  IsNoteOf o n = Kin (first_of o) n.held.recorded

  -- the seat was made with the object, has seen no batch and has placed none
  abbrev pub IsFresh : Shared S B F a → Seat S B F g → Type 0
  IsFresh o s = IsOf o s × (seen_by s ≡ []) × (places_by s ≡ [])
