use Rattle.std.proofs.Common.{rules}
use Rattle.dname.proofs.PackLemmas.{splits_piece}
use Rattle.dname.proofs.packed.split_piece.Goals as goal

pub split_head-size-requires-clause-some : goal.split_head-size-requires-clause-some
split_head-size-requires-clause-some c = (splits_piece _ c.requires.packed c.requires.some).some

pub split_head-size-requires-clause-head : goal.split_head-size-requires-clause-head
split_head-size-requires-clause-head c = (splits_piece _ c.requires.packed c.requires.some).head

pub returns : goal.returns
returns c = (splits_piece _ c.requires.packed c.requires.some).steps _ _ (search rules) (search rules)
