-- What an insert answers, by what the seat had seen.
use Rattle.std.specs.Prelude.{◌≡◌, ℕ, ◌+◌, ◌<◌, Some, None, List, [], ◌∷◌, ◌++◌, length, fold}
use Rattle.std.specs.Prelude.{MatchResult}
use Rattle.std.specs.declared.result.Result.{Result}
use mathlib.Core.List.{IsPrefix}
use Rattle.cache_versions.specs.declared.state.State.{Ghosts}
use Rattle.cache_versions.specs.declared.seat.Seat.{Seat}
use Rattle.cache_versions.specs.declared.place.Placed.{Placed}
use Rattle.cache_versions.specs.declared.place.InsertFault.{InsertFault}
use Rattle.cache_versions.specs.declared.place.InsertFault.TheVariants.{NumbersSpent}
use Rattle.cache_versions.specs.declared.place.InsertFault.TheVariants.{OutOfMemory, Refused}
use Rattle.cache_versions.specs.Seats.{kept_by, noted_by, opening_by, places_by, seen_by}

module _ {S B F : Type 0} {g : Ghosts S B F} where
  module _ (before after : Seat S B F g) (batch : B) where
    -- the state after these batches
    abbrev pub state_after : List B → S
    state_after batches = fold g.after (opening_by before) batches

    -- the batch stands behind a journal that begins with what the seat had seen, and whose state
    -- takes it. Its place is the seat's last one
    pub record Inserted (p : Placed S B F g) : Type 0 where
      pub former : List B
      pub begins : IsPrefix (seen_by before) former
      pub taken : g.refusal (state_after former) batch ≡ None
      pub room : length former < g.BATCHES
      pub seen : seen_by after ≡ former ++ batch ∷ []
      pub version : p.version ≡ length former + 1
      pub places : places_by after ≡ places_by before ++ length former ∷ []
      pub note : noted_by p.note ≡ seen_by after

    -- the seat has seen just the version that was met, which has no room
    pub record MetFull (v : ℕ) : Type 0 where
      pub version : v ≡ length (seen_by after)
      pub full : v ≡ g.BATCHES
      pub places : places_by after ≡ places_by before

    -- the seat has seen just the version that was met, which has room, and whose state refuses the
    -- batch with this fault
    pub record MetRefusal (v : ℕ) (f : F) : Type 0 where
      pub version : v ≡ length (seen_by after)
      pub room : v < g.BATCHES
      pub refused : g.refusal (state_after (seen_by after)) batch ≡ Some f
      pub places : places_by after ≡ places_by before

    -- after want of memory the seat keeps its version
    abbrev pub NotInserted : InsertFault F → Type 0
    NotInserted (NumbersSpent v) = MetFull v
    NotInserted (Refused v f) = MetRefusal v f
    NotInserted OutOfMemory =
        (kept_by after ≡ kept_by before) × (places_by after ≡ places_by before)

    abbrev pub Answered : Result (Placed S B F g) (InsertFault F) → Type 0
    Answered r = MatchResult r Inserted NotInserted
