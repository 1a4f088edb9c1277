use Rattle.zone_index.proofs.HashLemmas.{HasPushed}
use Rattle.zone_index.proofs.hash_table.push_ancestors.Given as goal

abbrev pub invariant-loop-labels : goal.invariant-loop-labels
invariant-loop-labels l = HasPushed l.salt l.iterations l.whole l.from l.labels l.initial.names.items l.names.items
