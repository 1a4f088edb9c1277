use Rattle.range_index.proofs.SpanLemmas.{before_parted}
use Rattle.range_index.proofs.WithLemmas.{IsPlainMet-found}
use Rattle.range_index.proofs.cut.plain_met.Goals as goal

pub returns : goal.returns
returns g c =
    IsPlainMet-found _ g.met.R.Key.Ord.total g.R.RingSpan.start g.R.RingSpan.end c.args.list.now c.requires.arcs c.args.span.now
    c.start_key-start.result c.end_key.result _ _ _ _ _ c.start_key-start.ensures c.end_key.ensures
    c.starts_before.ensures.value c.starts_before-to.ensures.value c.trimmed-from.ensures c.len.ensures c.trimmed-last.ensures c.requires.plain

pub starts_before-requires-clause-parted : goal.starts_before-requires-clause-parted
starts_before-requires-clause-parted g c = before_parted _ g.met.R.Key.Ord.total _ g.R.RingSpan.end c.args.list.now c.requires.arcs _

pub starts_before-to-requires-clause-parted : goal.starts_before-to-requires-clause-parted
starts_before-to-requires-clause-parted g c = before_parted _ g.met.R.Key.Ord.total _ g.R.RingSpan.end c.args.list.now c.requires.arcs _
