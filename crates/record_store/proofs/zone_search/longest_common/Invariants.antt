use Rattle.std.proofs.Common.{◌≡◌, length}
use Rattle.cache_meaning.specs.Zones.{self_and_above}
use Rattle.record_store.specs.LookUp.{first_apex}
use Rattle.record_store.proofs.zone_search.longest_common.Given as goal

abbrev pub invariant-loop-last : goal.invariant-loop-last
invariant-loop-last l = first_apex l.zones (self_and_above l.fn.name) ≡ first_apex l.zones (self_and_above l.name)

abbrev pub decreases-loop-last : goal.decreases-loop-last
decreases-loop-last l = length l.name
