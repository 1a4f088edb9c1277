-- The seats that an object begins with.
use Rattle.std.specs.Prelude.{◌≡◌, ℕ, ◌<◌, List, [], length, slice_index_or}
use Rattle.atomic_table.specs.Seated.{TableId}
use Rattle.cache_versions.specs.declared.state.State.{Ghosts}
use Rattle.cache_versions.specs.declared.version.Recorded.{Recorded}
use Rattle.cache_versions.specs.declared.seat.Seat.{Seat}
use Rattle.cache_versions.specs.Kin.{IsSame}
use Rattle.cache_versions.specs.Seats.{kept_by, number_by, places_by}

module _ {S B F : Type 0} {g : Ghosts S B F} where
  -- seat i has the number i
  abbrev pub AreNumbered : List (Seat S B F g) → Type 0
  AreNumbered seats =
      (i : ℕ) (d : Seat S B F g) → i < length seats → number_by (slice_index_or seats i d) ≡ i

  -- the seat keeps this version, is dealt places by this table, and has none
  abbrev pub IsMadeWith : Recorded S B → TableId → Seat S B F g → Type 0
  IsMadeWith first table s =
      IsSame first (kept_by s) × (s.hand.table_id ≡ table) × (places_by s ≡ [])
