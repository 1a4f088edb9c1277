use Rattle.std.proofs.Common.{◌≡◌, ◌++◌, not, filter, drop}
use Rattle.cache_meaning.specs.Held.{goes}
use Rattle.cache_meaning.specs.Views.{shared_records}
use Rattle.cache_meaning.proofs.held_records.records_within_limit.Given as goal

abbrev pub invariant-loop-item : goal.invariant-loop-item
invariant-loop-item l =
    shared_records l.kept.items ++ filter (λ item. not (goes (shared_records l.records) item)) (shared_records (drop l.item-index l.records))
    ≡ filter (λ item. not (goes (shared_records l.records) item)) (shared_records l.records)
