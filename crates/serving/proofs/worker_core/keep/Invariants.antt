use Rattle.serving.proofs.MarkLemmas.{AreKeptBelow}
use Rattle.serving.proofs.worker_core.keep.Given as goal

abbrev pub invariant-loop-slot : goal.invariant-loop-slot
invariant-loop-slot l = AreKeptBelow l.slot l.now l.initial.taken l.sent l.taken
