use Rattle.range_index.proofs.WithLemmas.{IsArcs-with, IsArcs-filter}
use Rattle.range_index.proofs.laws.arcs_stay_arcs.Goals as goal

pub returns-clause-with : goal.returns-clause-with
returns-clause-with g c cmp total start end spans arcs new = IsArcs-with cmp total start end new spans arcs

pub returns-clause-some : goal.returns-clause-some
returns-clause-some g c cmp start end spans arcs keep = IsArcs-filter cmp start end keep spans arcs
