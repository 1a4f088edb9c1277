use Rattle.resolver.proofs.DnameLemmas.{topmost_below, topmost_is_topmost}
use Rattle.resolver.proofs.laws.the_topmost_is_taken.Goals as goal

pub returns-clause-above : goal.returns-clause-above
returns-clause-above c = λ held now zone name dname is.
    let found = topmost_below held now zone name dname is in
    (found.0, found.1.set_is.of_zone, found.1.set_is.usable)

pub returns-clause-topmost : goal.returns-clause-topmost
returns-clause-topmost c = topmost_is_topmost
