use Rattle.zone_index.proofs.HashLemmas.{hash_run_ordered, hash_run}
use Rattle.zone_index.proofs.hash_table.run_in.Goals as goal

pub between-requires-clause-order : goal.between-requires-clause-order
between-requires-clause-order c = hash_run_ordered c.args.names.now c.args.hash.now _ _ c.place_before-from.ensures.bound c.place_before-from.ensures.point c.place_behind-upto.ensures.point

pub returns : goal.returns
returns c = hash_run c.args.names.now c.between.result.now c.args.hash.now _ _ c.place_before-from.ensures.bound c.place_behind-upto.ensures.bound c.place_before-from.ensures.point c.place_behind-upto.ensures.point c.between.ensures
