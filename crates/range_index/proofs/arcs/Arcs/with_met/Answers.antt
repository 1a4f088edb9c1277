use Rattle.std.specs.Arc.{arc_value}
use Rattle.range_index.proofs.WithLemmas.{IsArcs-with}
use Rattle.range_index.proofs.arcs.Arcs.with_met.Goals as goal

pub invariant_of-result : goal.invariant_of-result
invariant_of-result g c =
    rw c.in_ok-list.ensures.list (IsArcs-with _ g.met.R.Key.Ord.total _ _ (arc_value c.args.span) c.self.inside.list c.self.invariant)
