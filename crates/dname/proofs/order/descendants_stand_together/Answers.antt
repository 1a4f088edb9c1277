use Rattle.dname.proofs.TogetherLemmas.{above_is_first, stands_together}
use Rattle.dname.proofs.order.descendants_stand_together.Goals as goal

pub returns : goal.returns
returns c = record { first = above_is_first; together = stands_together }
