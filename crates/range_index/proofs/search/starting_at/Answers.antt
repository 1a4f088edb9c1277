use Rattle.range_index.proofs.SpanLemmas.{before_parted, upto_parted, cut_at}
use Rattle.range_index.proofs.search.starting_at.Goals as goal

pub returns : goal.returns
returns g c =
    cut_at _ g.met.R.Key.Ord.total _ g.R.RingSpan.end c.args.list.now c.requires.arcs c.args.key.now _ _ c.starts_before.ensures.value c.starts_upto.ensures.value

pub starts_before-requires-clause-parted : goal.starts_before-requires-clause-parted
starts_before-requires-clause-parted g c = before_parted _ g.met.R.Key.Ord.total _ g.R.RingSpan.end c.args.list.now c.requires.arcs _

pub starts_upto-requires-clause-parted : goal.starts_upto-requires-clause-parted
starts_upto-requires-clause-parted g c = upto_parted _ g.met.R.Key.Ord.total _ g.R.RingSpan.end c.args.list.now c.requires.arcs _
