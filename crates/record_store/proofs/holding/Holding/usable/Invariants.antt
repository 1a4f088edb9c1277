use Rattle.std.proofs.Common.{length}
use Rattle.record_store.proofs.PhaseLemmas.{IsWithoutExpired}
use Rattle.record_store.proofs.holding.Holding.usable.Given as goal

abbrev pub invariant-loop-alloc : goal.invariant-loop-alloc
invariant-loop-alloc l = IsWithoutExpired l.now l.self l.holding

abbrev pub decreases-loop-alloc : goal.decreases-loop-alloc
decreases-loop-alloc l = length l.holding.records
