use Rattle.std.proofs.Common.{◌∙◌}
use Rattle.page_list.specs.Marks.{value_of}
use Rattle.page_list.proofs.Values.{parted_of, prefix_of}
use Rattle.page_list.proofs.marked_list.MarkedList.find.Goals as goal

pub returns-clause-exact : goal.returns-clause-exact
returns-clause-exact g c = λ p test parted.
    let entries = c.self.inside.entries in
    rw (← c.self.view_is) (c.find.ensures.exact (λ entry. p (value_of entry)) (λ entry r says. test (value_of entry) r says) (parted_of value_of p entries (rw c.self.view_is parted)) ∙ prefix_of value_of p entries)
