use Rattle.dname.proofs.PieceLemmas.{tie_is}
use Rattle.dname.proofs.pieces.octets_eq.Goals as goal

pub returns-then-octets-others : goal.returns-then-octets-others
returns-then-octets-others c = tie_is c.args.octets.now c.args.others.now _ _ c.octets_cmp.ensures c.is_eq.ensures
