use Rattle.zone_index.proofs.LiveLemmas.{live_sorted}
use Rattle.zone_index.proofs.live_names.LiveNames.of.Goals as goal

pub returns : goal.returns
returns c = live_sorted c.args.zone.now _ _ c.in_ok-names.ensures c.in_ok-sort.ensures.permutation c.in_ok-sort.ensures.sorted
