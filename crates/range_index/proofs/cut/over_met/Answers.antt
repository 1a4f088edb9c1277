use Rattle.range_index.proofs.SpanLemmas.{before_parted}
use Rattle.range_index.proofs.WithLemmas.{IsOverMet-found}
use Rattle.range_index.proofs.cut.over_met.Goals as goal

pub returns-clause-met : goal.returns-clause-met
returns-clause-met g c =
    IsOverMet-found _ g.met.R.Key.Ord.total g.R.RingSpan.start g.R.RingSpan.end c.args.list.now c.requires.arcs c.args.span.now
    c.start_key-start.result c.end_key.result _ _ _ _ c.start_key-start.ensures c.end_key.ensures
    c.starts_before.ensures.value c.starts_before-2.ensures.value c.trimmed-last.ensures c.min-to.ensures c.requires.over

pub starts_before-requires-clause-parted : goal.starts_before-requires-clause-parted
starts_before-requires-clause-parted g c = before_parted _ g.met.R.Key.Ord.total _ g.R.RingSpan.end c.args.list.now c.requires.arcs _

pub starts_before-requires-2-clause-parted : goal.starts_before-requires-2-clause-parted
starts_before-requires-2-clause-parted g c = before_parted _ g.met.R.Key.Ord.total _ g.R.RingSpan.end c.args.list.now c.requires.arcs _
