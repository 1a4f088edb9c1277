use Rattle.encloser.proofs.AncestorLemmas.{all_ancestors, in_turn, first_ancestor}
use Rattle.encloser.proofs.laws.ancestors_in_turn.Goals as goal

pub returns-clause-all : goal.returns-clause-all
returns-clause-all c = all_ancestors

pub returns-clause-in_turn : goal.returns-clause-in_turn
returns-clause-in_turn c = in_turn

pub returns-clause-first : goal.returns-clause-first
returns-clause-first c = first_ancestor
