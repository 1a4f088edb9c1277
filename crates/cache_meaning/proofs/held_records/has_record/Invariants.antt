use Rattle.std.proofs.Common.{◌≡◌, drop}
use Rattle.std.specs.List.{list_any}
use Rattle.cache_meaning.specs.Held.{is_of_chain}
use Rattle.cache_meaning.specs.Views.{shared_records}
use Rattle.cache_meaning.proofs.held_records.has_record.Given as goal

abbrev pub invariant-loop-item : goal.invariant-loop-item
invariant-loop-item l =
    list_any (is_of_chain l.chain) (shared_records l.records)
    ≡ list_any (is_of_chain l.chain) (shared_records (drop l.item-index l.records))
