use Rattle.intake.proofs.NewLemmas.{HasLooked}
use Rattle.intake.proofs.each_once.are_new.Given as goal

abbrev pub invariant-loop-item : goal.invariant-loop-item
invariant-loop-item l = HasLooked l.octets l.item-index l.seen l.new.items
