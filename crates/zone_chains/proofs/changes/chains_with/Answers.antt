use Rattle.std.proofs.Common.{[], sym, ◌∙◌}
use Rattle.std.specs.Arc.{arc_value}
use Rattle.facts.proofs.Lists.{here}
use Rattle.zone_chains.proofs.ComeLemmas.{displaces_in}
use Rattle.zone_chains.proofs.changes.chains_with.Goals as goal

pub returns-in_ok-made-in-One-clause-met : goal.returns-in_ok-made-in-One-clause-met
returns-in_ok-made-in-One-clause-met c =
    rw c.in-One.is
    (displaces_in _ _ _ _ _ _ _ _ _ _ (here (arc_value c.in-One.only) []) c.deref.ensures c.deref-in-One.ensures c.deref-then-is_of.ensures c.deref-then-is_of-2.ensures
    (sym c.is_of.ensures ∙ c.if-is_of.true) c.in_ok-made-in-One.ensures.met)
