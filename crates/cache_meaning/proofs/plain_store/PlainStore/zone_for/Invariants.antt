use Rattle.std.proofs.Common.{◌≡◌, length}
use Rattle.std.specs.List.{find, list_any}
use Rattle.dname.specs.Tests.{same_name}
use Rattle.cache_meaning.specs.Held.{zone_of}
use Rattle.cache_meaning.specs.Zones.{self_and_above, zone_for}
use Rattle.cache_meaning.proofs.plain_store.PlainStore.zone_for.Given as goal

abbrev pub invariant-loop-zone : goal.invariant-loop-zone
invariant-loop-zone l = zone_for l.self l.name l.qtype ≡ find (λ zone. list_any (λ item. same_name (zone_of item) zone) l.self.records) (self_and_above l.zone)

abbrev pub decreases-loop-zone : goal.decreases-loop-zone
decreases-loop-zone l = length l.zone
