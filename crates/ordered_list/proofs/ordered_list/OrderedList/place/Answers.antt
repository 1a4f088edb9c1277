use Rattle.std.proofs.Common.{rules, sym, ◌∙◌}
use Rattle.std.specs.Ordering.{is_le}
use Rattle.ordered_list.proofs.MarkLemmas.{upto_parts}
use Rattle.ordered_list.proofs.PlaceLemmas.{below_level, one_level, below_other, none_other, none_of_all}
use Rattle.ordered_list.proofs.ordered_list.OrderedList.place.Goals as goal

pub returns-then-ranks_equal-clause-from : goal.returns-then-ranks_equal-clause-from
returns-then-ranks_equal-clause-from g c =
    let cmp = g.R.Ranking.cmp in
    let total = g.met.R.Ranking.total in
    let like = c.args.like.now in
    let list = c.self.inside.list in
    let parts = upto_parts cmp total g.R.Marking.mark g.met.R.Ranking.marks_rise like list c.self.invariant in
    let last = c.in-Some.ensures.exact (λ x. is_le (cmp x like)) (λ x r says. search rules) (rw c.mark-mark.ensures parts) in
    rw (← c.self.view_is) (below_level cmp total like list c.self.invariant c.in-Some.field-0.place c.deref.result.now last c.in-Some.ensures.in_range (rw c.deref.ensures c.in-Some.ensures.value) (sym c.ranks_equal.ensures ∙ c.if-ranks_equal.true))

pub returns-then-ranks_equal-clause-to : goal.returns-then-ranks_equal-clause-to
returns-then-ranks_equal-clause-to g c =
    let cmp = g.R.Ranking.cmp in
    let total = g.met.R.Ranking.total in
    let like = c.args.like.now in
    let list = c.self.inside.list in
    let parts = upto_parts cmp total g.R.Marking.mark g.met.R.Ranking.marks_rise like list c.self.invariant in
    let last = c.in-Some.ensures.exact (λ x. is_le (cmp x like)) (λ x r says. search rules) (rw c.mark-mark.ensures parts) in
    rw (← c.self.view_is) (one_level cmp total like list c.self.invariant c.in-Some.field-0.place c.deref.result.now last c.in-Some.ensures.in_range (rw c.deref.ensures c.in-Some.ensures.value) (sym c.ranks_equal.ensures ∙ c.if-ranks_equal.true))

pub returns-else-ranks_equal-clause-from : goal.returns-else-ranks_equal-clause-from
returns-else-ranks_equal-clause-from g c =
    let cmp = g.R.Ranking.cmp in
    let total = g.met.R.Ranking.total in
    let like = c.args.like.now in
    let list = c.self.inside.list in
    let parts = upto_parts cmp total g.R.Marking.mark g.met.R.Ranking.marks_rise like list c.self.invariant in
    let last = c.in-Some.ensures.exact (λ x. is_le (cmp x like)) (λ x r says. search rules) (rw c.mark-mark.ensures parts) in
    rw (← c.self.view_is) (below_other cmp total like list c.self.invariant c.in-Some.field-0.place c.deref.result.now last c.in-Some.ensures.in_range (rw c.deref.ensures c.in-Some.ensures.value) (sym c.ranks_equal.ensures ∙ c.if-ranks_equal.false))

pub returns-else-ranks_equal-clause-to : goal.returns-else-ranks_equal-clause-to
returns-else-ranks_equal-clause-to g c =
    let cmp = g.R.Ranking.cmp in
    let total = g.met.R.Ranking.total in
    let like = c.args.like.now in
    let list = c.self.inside.list in
    let parts = upto_parts cmp total g.R.Marking.mark g.met.R.Ranking.marks_rise like list c.self.invariant in
    let last = c.in-Some.ensures.exact (λ x. is_le (cmp x like)) (λ x r says. search rules) (rw c.mark-mark.ensures parts) in
    rw (← c.self.view_is) (none_other cmp total like list c.self.invariant c.in-Some.field-0.place c.deref.result.now last c.in-Some.ensures.in_range (rw c.deref.ensures c.in-Some.ensures.value) (sym c.ranks_equal.ensures ∙ c.if-ranks_equal.false))

pub returns-in-None-clause-from : goal.returns-in-None-clause-from
returns-in-None-clause-from g c =
    let cmp = g.R.Ranking.cmp in
    let total = g.met.R.Ranking.total in
    let like = c.args.like.now in
    let list = c.self.inside.list in
    let parts = upto_parts cmp total g.R.Marking.mark g.met.R.Ranking.marks_rise like list c.self.invariant in
    rw (← c.self.view_is) ((none_of_all cmp total like list c.self.invariant (c.in-None.ensures.exact (λ x. is_le (cmp x like)) (λ x r says. search rules) (rw c.mark-mark.ensures parts))).0)

pub returns-in-None-clause-to : goal.returns-in-None-clause-to
returns-in-None-clause-to g c =
    let cmp = g.R.Ranking.cmp in
    let total = g.met.R.Ranking.total in
    let like = c.args.like.now in
    let list = c.self.inside.list in
    let parts = upto_parts cmp total g.R.Marking.mark g.met.R.Ranking.marks_rise like list c.self.invariant in
    rw (← c.self.view_is) ((none_of_all cmp total like list c.self.invariant (c.in-None.ensures.exact (λ x. is_le (cmp x like)) (λ x r says. search rules) (rw c.mark-mark.ensures parts))).1)
