use Rattle.std.proofs.Common.{◌∙◌}
use Rattle.page_list.specs.Marks.{value_of}
use Rattle.page_list.proofs.Values.{parts_of, prefix_of}
use Rattle.page_list.proofs.marked_list.MarkedList.find_at.Goals as goal

pub returns-clause-exact : goal.returns-clause-exact
returns-clause-exact g c = λ p test parts.
    let entries = c.self.inside.entries in
    rw (← c.self.view_is) (c.find_at.ensures.exact (λ entry. p (value_of entry)) (λ entry r says. test (value_of entry) r says) (parts_of g.M.Marking.mark g.M.Marking.note c.args.mark p entries c.self.invariant (rw c.self.view_is parts)) ∙ prefix_of value_of p entries)
