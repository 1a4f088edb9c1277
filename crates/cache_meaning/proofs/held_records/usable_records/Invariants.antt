use Rattle.std.proofs.Common.{◌≡◌, ◌++◌, filter, drop}
use Rattle.cache_meaning.specs.Held.{is_usable}
use Rattle.cache_meaning.specs.Views.{shared_records}
use Rattle.cache_meaning.proofs.held_records.usable_records.Given as goal

abbrev pub invariant-loop-item : goal.invariant-loop-item
invariant-loop-item l =
    shared_records l.usable.items ++ filter (is_usable l.now) (shared_records (drop l.item-index l.records))
    ≡ filter (is_usable l.now) (shared_records l.records)
