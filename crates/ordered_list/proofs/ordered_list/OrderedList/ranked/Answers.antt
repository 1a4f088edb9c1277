use Rattle.std.proofs.Common.{arith, rules}
use Rattle.ordered_list.proofs.PlaceLemmas.{rank_in_range, rank_taken, rank_free}
use Rattle.ordered_list.proofs.ordered_list.OrderedList.ranked.Goals as goal

pub get-requires : goal.get-requires
get-requires g c =
    let within = rank_in_range g.R.Ranking.cmp g.met.R.Ranking.total c.requires.0 c.self.inside.list c.self.invariant c.args.rank.from c.args.rank.to (rw c.self.view_is c.requires.1) in
    omega (arith, within, c.if-rank.true)

pub returns-then-rank : goal.returns-then-rank
returns-then-rank g c =
    λ like rank. rw (← c.self.view_is) (rank_taken g.R.Ranking.cmp g.met.R.Ranking.total like c.self.inside.list c.self.invariant c.args.rank.from c.args.rank.to (rw c.self.view_is rank) _ (search rules) c.get.ensures)

pub returns-else-rank : goal.returns-else-rank
returns-else-rank g c =
    λ like rank. rw (← c.self.view_is) (rank_free g.R.Ranking.cmp g.met.R.Ranking.total like c.self.inside.list c.self.invariant c.args.rank.from c.args.rank.to (rw c.self.view_is rank) (search rules))
