use Rattle.intake.proofs.TakeLemmas.{HasTakenIn}
use Rattle.intake.proofs.grouping.take_in.Given as goal

abbrev pub invariant-loop-rr : goal.invariant-loop-rr
invariant-loop-rr l = HasTakenIn l.now l.fn.table.piles.items l.fn.signatures.items l.yielded l.table l.signatures.items
