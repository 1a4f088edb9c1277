-- No public clause cites this module: what an insert answers, by the version that it met.
use Rattle.std.specs.Prelude.{◌≡◌, ℕ, ◌+◌, ◌<◌, Some, None, [], ◌∷◌, ◌++◌}
use Rattle.std.specs.Prelude.{MatchResult}
use Rattle.std.specs.declared.result.Result.{Result}
use Rattle.cache_versions.specs.declared.state.State.{Ghosts}
use Rattle.cache_versions.specs.declared.version.Recorded.{Recorded}
use Rattle.cache_versions.specs.declared.seat.Seat.{Seat}
use Rattle.cache_versions.specs.declared.place.Placed.{Placed}
use Rattle.cache_versions.specs.declared.place.InsertFault.{InsertFault}
use Rattle.cache_versions.specs.declared.place.InsertFault.TheVariants.{NumbersSpent}
use Rattle.cache_versions.specs.declared.place.InsertFault.TheVariants.{OutOfMemory, Refused}
use Rattle.cache_versions.specs.Kin.{IsSame, journal_of, number_of, state_of}
use Rattle.cache_versions.specs.Seats.{kept_by, seen_by, places_by}

module _ {S B F : Type 0} {g : Ghosts S B F} where
  module _ (met : Recorded S B) (before after : Seat S B F g) (batch : B) where
    -- the seat has seen the version that was met and then the batch, whose place is its last one
    pub record IsPlaced (p : Placed S B F g) : Type 0 where
      pub seen : seen_by after ≡ journal_of met ++ batch ∷ []
      pub taken : g.refusal (state_of met) batch ≡ None
      pub room : number_of met < g.BATCHES
      pub version : p.version ≡ number_of met + 1
      pub places : places_by after ≡ places_by before ++ number_of met ∷ []
      pub note : IsSame (kept_by after) p.note.held.recorded

    -- the version that was met is full, and the seat has seen just that
    pub record IsFull (v : ℕ) : Type 0 where
      pub version : v ≡ number_of met
      pub full : number_of met ≡ g.BATCHES
      pub kept : IsSame met (kept_by after)
      pub places : places_by after ≡ places_by before

    -- the version that was met refuses the batch, and the seat has seen just that
    pub record IsRefused (v : ℕ) (f : F) : Type 0 where
      pub version : v ≡ number_of met
      pub room : number_of met < g.BATCHES
      pub refused : g.refusal (state_of met) batch ≡ Some f
      pub kept : IsSame met (kept_by after)
      pub places : places_by after ≡ places_by before

    abbrev pub IsFaulted : InsertFault F → Type 0
    IsFaulted (NumbersSpent v) = IsFull v
    IsFaulted (Refused v f) = IsRefused v f
    IsFaulted OutOfMemory = (kept_by after ≡ kept_by before) × (places_by after ≡ places_by before)

    abbrev pub IsAnswer : Result (Placed S B F g) (InsertFault F) → Type 0
    IsAnswer r = MatchResult r IsPlaced IsFaulted
