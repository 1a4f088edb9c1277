use Rattle.zone_index.proofs.HashLemmas.{HasHashed}
use Rattle.zone_index.proofs.hash_table.hashed_names.Given as goal

abbrev pub invariant-loop-at : goal.invariant-loop-at
invariant-loop-at l = HasHashed l.salt l.iterations l.live l.apex l.at l.names.items
