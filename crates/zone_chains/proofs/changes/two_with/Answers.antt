use Rattle.std.proofs.Common.{[], ◌∷◌, sym, ◌∙◌}
use Rattle.std.specs.Arc.{arc_value}
use Rattle.facts.proofs.Lists.{here, there}
use Rattle.zone_chains.proofs.ComeLemmas.{displaces_in}
use Rattle.zone_chains.proofs.changes.two_with.Goals as goal

pub returns-in_ok-made-clause-met : goal.returns-in_ok-made-clause-met
returns-in_ok-made-clause-met c =
    displaces_in _ _ _ _ _ _ _ _ _ _ (here (arc_value c.args.newer.now) (arc_value c.args.older.now ∷ [])) c.deref.ensures c.deref-2.ensures c.deref-then-is_of.ensures c.deref-then-is_of-2.ensures
    (sym c.is_of.ensures ∙ c.if-is_of.true) c.in_ok-made.ensures.met

pub returns-in_ok-made-2-clause-met : goal.returns-in_ok-made-2-clause-met
returns-in_ok-made-2-clause-met c =
    displaces_in _ _ _ _ _ _ _ _ _ _ (there (arc_value c.args.newer.now) (arc_value c.args.older.now ∷ []) _ (here (arc_value c.args.older.now) [])) c.deref-else-is_of.ensures c.deref-else-is_of-2.ensures c.deref-then-is_of-2-2.ensures c.deref-then-is_of-2-3.ensures
    (sym c.is_of-else-is_of.ensures ∙ c.if-is_of-2.true) c.in_ok-made-2.ensures.met
