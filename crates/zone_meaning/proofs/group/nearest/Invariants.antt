use Rattle.zone_meaning.proofs.GroupLemmas.{IsNearest}
use Rattle.zone_meaning.proofs.group.nearest.Given as goal

abbrev pub invariant-loop-group : goal.invariant-loop-group
invariant-loop-group l = IsNearest l.groups l.apex l.name l.group-index l.nearest
