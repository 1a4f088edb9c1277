use Rattle.range_index.proofs.WithLemmas.{at_most_one}
use Rattle.range_index.proofs.laws.one_span_has_a_key.Goals as goal

pub returns : goal.returns
returns g c cmp total start end spans arcs key = at_most_one cmp total start end spans arcs key
