-- What a clause reads of a seat, of a version that is lent, and of a note.
use Rattle.std.specs.Prelude.{◌≡◌, List, ℕ}
use Rattle.cache_versions.specs.declared.state.State.{Ghosts}
use Rattle.cache_versions.specs.declared.version.Recorded.{Recorded}
use Rattle.cache_versions.specs.declared.seat.Seat.{Seat}
use Rattle.cache_versions.specs.declared.place.Note.{Note}
use Rattle.cache_versions.specs.Kin.{journal_of, opening_of}

module _ {S B F : Type 0} {g : Ghosts S B F} where
  -- the version that the seat keeps
  abbrev pub kept_by : Seat S B F g → Recorded S B
  kept_by s = s.held.recorded

  -- the batches that the seat has seen
  abbrev pub seen_by : Seat S B F g → List B
  seen_by s = journal_of (kept_by s)

  -- the state that no batch has made
  abbrev pub opening_by : Seat S B F g → S
  opening_by s = opening_of (kept_by s)

  abbrev pub number_by : Seat S B F g → ℕ
  number_by s = s.number

  -- where the seat's own batches stand in the journal. They exist in the proofs alone
  abbrev pub places_by : Seat S B F g → List ℕ
  places_by s = s.hand.me.0.places

  -- the number and the places are the same
  abbrev pub IsSameSeat : Seat S B F g → Seat S B F g → Type 0
  IsSameSeat s t = (number_by t ≡ number_by s) × (places_by t ≡ places_by s)

  -- the batches up to the one that the note is of
  abbrev pub noted_by : Note S B F g → List B
  noted_by n = journal_of n.held.recorded
