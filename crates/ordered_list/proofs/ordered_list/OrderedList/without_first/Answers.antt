use Rattle.ordered_list.proofs.OrderLemmas.{dropped_in_order}
use Rattle.ordered_list.proofs.ordered_list.OrderedList.without_first.Goals as goal

pub invariant_of-result : goal.invariant_of-result
invariant_of-result g c =
    dropped_in_order g.R.Ranking.cmp c.args.n c.self.inside.list c.self.invariant c.in_ok-list.list c.in_ok-list.ensures
