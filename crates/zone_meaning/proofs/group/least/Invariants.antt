use Rattle.zone_meaning.proofs.GroupLemmas.{IsLeast}
use Rattle.zone_meaning.proofs.group.least.Given as goal

abbrev pub invariant-loop-item : goal.invariant-loop-item
invariant-loop-item l = IsLeast l.items l.item-index l.least
