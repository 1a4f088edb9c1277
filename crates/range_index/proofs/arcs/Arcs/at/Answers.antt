use Rattle.std.proofs.Common.{sym, ◌∙◌}
use Rattle.range_index.proofs.SpanLemmas.{found_at, none_at}
use Rattle.range_index.proofs.arcs.Arcs.at.Goals as goal

pub returns-then-span_has-clause-span : goal.returns-then-span_has-clause-span
returns-then-span_has-clause-span g c =
    rw (← c.self.view_is)
    (found_at _ g.met.R.Key.Ord.total _ _ c.self.inside.list c.self.invariant c.args.key.now _ _ c.deref-span.result.now
    c.candidate-started.ensures.only (rw c.deref-span.ensures c.candidate-started.ensures.span) (sym c.span_has.ensures ∙ c.if-span_has.true))

pub returns-else-span_has-clause-span : goal.returns-else-span_has-clause-span
returns-else-span_has-clause-span g c =
    rw (← c.self.view_is)
    (none_at _ g.met.R.Key.Ord.total _ _ c.self.inside.list c.self.invariant c.args.key.now _ _ c.deref-span.result.now
    c.candidate-started.ensures.only (rw c.deref-span.ensures c.candidate-started.ensures.span) (sym c.span_has.ensures ∙ c.if-span_has.false))
