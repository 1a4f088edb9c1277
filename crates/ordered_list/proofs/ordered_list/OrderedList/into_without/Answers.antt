use Rattle.std.proofs.Common.{sym, subst, not}
use Rattle.std.specs.Ordering.{is_eq}
use Rattle.ordered_list.specs.Order.{IsInOrder}
use Rattle.ordered_list.proofs.OrderLemmas.{filter_in_order}
use Rattle.ordered_list.proofs.PlaceLemmas.{without_made}
use Rattle.ordered_list.proofs.ordered_list.OrderedList.into_without.Goals as goal

pub invariant_of-result : goal.invariant_of-result
invariant_of-result g c =
    let cmp = g.R.Ranking.cmp in
    let like = c.args.like.now in
    let made = without_made cmp g.met.R.Ranking.total like c.self.inside.list c.self.invariant _ _ (rw c.self.view_is c.place-from.ensures.from) (rw c.self.view_is c.place-from.ensures.to) _ c.in_ok-list.ensures in
    subst (IsInOrder cmp) (sym made) (filter_in_order cmp (λ x. not (is_eq (cmp x like))) c.self.inside.list c.self.invariant)

pub returns-clause-made : goal.returns-clause-made
returns-clause-made g c =
    rw (← c.self.view_is) (without_made g.R.Ranking.cmp g.met.R.Ranking.total c.args.like.now c.self.inside.list c.self.invariant _ _ (rw c.self.view_is c.place-from.ensures.from) (rw c.self.view_is c.place-from.ensures.to) _ c.in_ok-list.ensures)
