use Rattle.std.proofs.Common.{◌≡◌, drop}
use Rattle.cache_meaning.specs.Zones.{first_of, as_set_at}
use Rattle.cache_meaning.specs.Views.{shared_records}
use Rattle.cache_meaning.proofs.plain_zone.PlainZoneHeldZone.set_at.Given as goal

abbrev pub invariant-loop-item : goal.invariant-loop-item
invariant-loop-item l = first_of (as_set_at l.self.apex l.owner l.rtype) l.self.held.records ≡ first_of (as_set_at l.self.apex l.owner l.rtype) (shared_records (drop l.item-index l.item-items))
