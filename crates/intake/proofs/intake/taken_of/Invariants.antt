use Rattle.intake.proofs.BringLemmas.{HasStored}
use Rattle.intake.proofs.intake.taken_of.Given as goal

abbrev pub invariant-loop-pile : goal.invariant-loop-pile
invariant-loop-pile l = HasStored l.now l.yielded l.records l.skipped
