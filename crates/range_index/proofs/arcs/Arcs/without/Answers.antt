use Rattle.std.proofs.Common.{◌∙◌}
use Rattle.range_index.proofs.WithLemmas.{IsArcs-filter}
use Rattle.range_index.proofs.arcs.Arcs.without.Goals as goal

pub invariant_of-result : goal.invariant_of-result
invariant_of-result g c =
    rw (c.in_ok-list.ensures ∙ c.starting_at-from.ensures.is)
    (IsArcs-filter _ _ _ _ c.self.inside.list c.self.invariant)
