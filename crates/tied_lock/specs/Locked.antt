-- What a clause reads of a lock.
use Rattle.std.specs.Prelude.{◌≡◌}
use Rattle.tied_lock.specs.declared.lock.TiedLock.{TiedLock}
use Rattle.tied_lock.specs.declared.lock.Lease.{Lease}

module _ {T K F : Type 0} where
  abbrev pub key_of : TiedLock T K F → K
  key_of l = l.table.shared.key

  -- the value was taken from this lock
  abbrev pub IsLeaseOf : TiedLock T K F → Lease T K → Type 0
  IsLeaseOf l lease = lease.seat.table_id ≡ l.table.shared.table_id
