use Rattle.zone_index.proofs.TruthLemmas.{among_sorted}
use Rattle.zone_index.proofs.truth.sorted.Goals as goal

pub returns-clause-same : goal.returns-clause-same
returns-clause-same c = among_sorted c.args.items _ _ c.in_ok-list.ensures c.in_ok-sort.ensures.permutation
