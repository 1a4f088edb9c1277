use Rattle.zone_index.proofs.EntryLemmas.{run_ordered, run_is, part_sorted}
use Rattle.zone_index.proofs.zone_index.run_in.Goals as goal

pub between-requires-clause-order : goal.between-requires-clause-order
between-requires-clause-order c = run_ordered c.args.sought.now c.args.entries.now _ _ c.place_before-from.ensures.bound c.place_before-from.ensures.point c.place_behind-upto.ensures.point

pub returns-clause-run : goal.returns-clause-run
returns-clause-run c = run_is c.args.sought.now c.args.entries.now _ _ _ c.place_before-from.ensures.bound c.place_behind-upto.ensures.bound c.place_before-from.ensures.point c.place_behind-upto.ensures.point c.between.ensures

pub returns-clause-sorted : goal.returns-clause-sorted
returns-clause-sorted c =
    part_sorted c.args.entries.now c.between.result.now _ _ c.place_behind-upto.ensures.bound
    (run_ordered c.args.sought.now c.args.entries.now _ _ c.place_before-from.ensures.bound c.place_before-from.ensures.point c.place_behind-upto.ensures.point) c.between.ensures
