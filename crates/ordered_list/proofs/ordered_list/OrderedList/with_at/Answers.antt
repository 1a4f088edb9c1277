use Rattle.std.proofs.Common.{refl, sym, subst, arith}
use Rattle.std.specs.Arc.{arc_value}
use Rattle.ordered_list.specs.Order.{IsInOrder}
use Rattle.ordered_list.proofs.OrderLemmas.{with_in_order}
use Rattle.ordered_list.proofs.PlaceLemmas.{rank_in_range, with_made}
use Rattle.ordered_list.proofs.ordered_list.OrderedList.with_at.Goals as goal

pub with_one-requires-clause-in_range : goal.with_one-requires-clause-in_range
with_one-requires-clause-in_range g c =
    let within = rank_in_range g.R.Ranking.cmp g.met.R.Ranking.total (arc_value c.args.entry) c.self.inside.list c.self.invariant c.args.rank.from c.args.rank.to (rw c.self.view_is c.requires) in
    omega (arith, within, c.requires.equal)

pub invariant_of-result : goal.invariant_of-result
invariant_of-result g c =
    let cmp = g.R.Ranking.cmp in
    let total = g.met.R.Ranking.total in
    let made = with_made cmp total (arc_value c.args.entry) c.self.inside.list c.self.invariant c.args.rank.from c.args.rank.to (rw c.self.view_is c.requires.below) (rw c.self.view_is c.requires.equal) (arc_value c.args.entry) c.in_ok-list.list refl c.in_ok-list.ensures in
    subst (IsInOrder cmp) (sym made) (with_in_order cmp total (arc_value c.args.entry) c.self.inside.list c.self.invariant)

pub returns : goal.returns
returns g c =
    rw (← c.self.view_is) (with_made g.R.Ranking.cmp g.met.R.Ranking.total (arc_value c.args.entry) c.self.inside.list c.self.invariant c.args.rank.from c.args.rank.to (rw c.self.view_is c.requires.below) (rw c.self.view_is c.requires.equal) (arc_value c.args.entry) c.in_ok-list.list refl c.in_ok-list.ensures)
