use Rattle.std.proofs.Common.{◌≡◌, ◌+◌, ◌≤◌, drop, count_by}
use Rattle.cache_meaning.specs.Held.{goes_before}
use Rattle.cache_meaning.specs.Views.{shared_records}
use Rattle.cache_meaning.proofs.held_records.count_before.Given as goal

abbrev pub invariant-loop-other : goal.invariant-loop-other
invariant-loop-other l = record {
  counted : l.before + count_by (λ other. goes_before other l.item) (shared_records (drop l.other-index l.records))
      ≡ count_by (λ other. goes_before other l.item) (shared_records l.records);
  few : l.before ≤ l.other-index;
}
