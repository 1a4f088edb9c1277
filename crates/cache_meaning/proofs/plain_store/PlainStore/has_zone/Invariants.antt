use Rattle.std.proofs.Common.{◌≡◌, drop}
use Rattle.std.specs.List.{list_any}
use Rattle.dname.specs.Tests.{same_name}
use Rattle.cache_meaning.specs.Held.{zone_of}
use Rattle.cache_meaning.specs.Views.{shared_records}
use Rattle.cache_meaning.proofs.plain_store.PlainStore.has_zone.Given as goal

abbrev pub invariant-loop-item : goal.invariant-loop-item
invariant-loop-item l =
    list_any (λ item. same_name (zone_of item) l.zone) l.self.records
    ≡ list_any (λ item. same_name (zone_of item) l.zone) (shared_records (drop l.item-index l.item-items))
