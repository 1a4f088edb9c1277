use Rattle.std.proofs.Common.{subst}
use Rattle.ordered_list.specs.Order.{IsInOrder}
use Rattle.record_store.specs.Ranks.{going_cmp}
use Rattle.record_store.proofs.goings.Goings.first.Goals as goal

pub returns-clause-in_order : goal.returns-clause-in_order
returns-clause-in_order c = subst (IsInOrder going_cmp) c.self.view_is c.self.invariant.in_order
