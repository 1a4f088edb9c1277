use Rattle.std.proofs.Common.{◌≡◌, drop}
use Rattle.cache_meaning.specs.Zones.{first_of, as_nsec_at}
use Rattle.cache_meaning.specs.Views.{shared_records}
use Rattle.cache_meaning.proofs.plain_zone.PlainZoneHeldZone.nsec_at.Given as goal

abbrev pub invariant-loop-item : goal.invariant-loop-item
invariant-loop-item l = first_of (as_nsec_at l.self.apex l.name) l.self.held.records ≡ first_of (as_nsec_at l.self.apex l.name) (shared_records (drop l.item-index l.item-items))
