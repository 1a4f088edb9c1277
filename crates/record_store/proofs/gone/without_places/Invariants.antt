use Rattle.record_store.specs.Holding.{AreElsewhere}
use Rattle.record_store.proofs.gone.without_places.Given as goal

abbrev pub invariant-loop-i : goal.invariant-loop-i
invariant-loop-i l = AreElsewhere l.chain.records l.from l.i l.fn.goings l.goings
