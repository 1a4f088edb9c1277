-- What a clause reads of a version that is lent.
use Rattle.std.specs.Borrow.{GName}
use Rattle.cache_versions.specs.declared.state.State.{Ghosts}
use Rattle.cache_versions.specs.declared.seat.Seat.{Seat}
use Rattle.cache_versions.specs.declared.shared.VersionRef.{VersionRef}

module _ {S B F : Type 0} {g : Ghosts S B F} where
  -- the seat that keeps the version
  abbrev pub seat_in : VersionRef S B F g → Seat S B F g
  seat_in v = v.seat.now

  -- whose seat it is
  abbrev pub lender_of : VersionRef S B F g → GName
  lender_of v = v.seat.ghost_name
