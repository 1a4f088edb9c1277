use Rattle.record_store.proofs.RestLemmas.{IsRest}
use Rattle.record_store.proofs.holding.Holding.within_limit.Given as goal

abbrev pub invariant-loop : goal.invariant-loop
invariant-loop l = IsRest l.fn.self l.counter l.holding
