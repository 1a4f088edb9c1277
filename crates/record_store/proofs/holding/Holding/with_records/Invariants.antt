use Rattle.record_store.proofs.PhaseLemmas.{HasCome}
use Rattle.record_store.proofs.holding.Holding.with_records.Given as goal

abbrev pub invariant-loop-i : goal.invariant-loop-i
invariant-loop-i l = HasCome l.fn.self l.records l.i l.holding
