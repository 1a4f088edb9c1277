use Rattle.std.proofs.Common.{◌≡◌, drop}
use Rattle.cache_meaning.specs.Zones.{first_of, as_nsec3_at}
use Rattle.cache_meaning.specs.Views.{shared_records}
use Rattle.cache_meaning.proofs.plain_zone.PlainZoneHeldZone.nsec3_at.Given as goal

abbrev pub invariant-loop-item : goal.invariant-loop-item
invariant-loop-item l = first_of (as_nsec3_at l.self.apex (record { salt = l.salt; iterations = l.iterations }) l.hash) l.self.held.records ≡ first_of (as_nsec3_at l.self.apex (record { salt = l.salt; iterations = l.iterations }) l.hash) (shared_records (drop l.item-index l.item-items))
