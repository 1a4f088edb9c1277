use Rattle.std.proofs.Common.{◌∙◌, sym, ap}
use Rattle.page_list.specs.Marks.{value_of}
use Rattle.page_list.proofs.Values.{own_mark, own_note, parts_of, prefix_of}
use Rattle.page_list.proofs.marked_list.MarkedList.last_at.Goals as goal

pub returns-in-Some-clause-mark : goal.returns-in-Some-clause-mark
returns-in-Some-clause-mark g c =
    let entries = c.self.inside.entries in
    c.mark.ensures
    ∙ (own_mark g.M.Marking.mark g.M.Marking.note entries c.self.invariant c.in-Some.entry.now (c.in-Some.place, c.in-Some.ensures.in_range, sym c.in-Some.ensures.entry) ∙ ap g.M.Marking.mark (sym c.share.ensures))

pub returns-in-Some-clause-note : goal.returns-in-Some-clause-note
returns-in-Some-clause-note g c =
    let entries = c.self.inside.entries in
    c.note.ensures
    ∙ (own_note g.M.Marking.mark g.M.Marking.note entries c.self.invariant c.in-Some.entry.now (c.in-Some.place, c.in-Some.ensures.in_range, sym c.in-Some.ensures.entry) ∙ ap g.M.Marking.note (sym c.share.ensures))

pub returns-in-Some-clause-exact : goal.returns-in-Some-clause-exact
returns-in-Some-clause-exact g c = λ p test parts.
    let entries = c.self.inside.entries in
    rw (← c.self.view_is) (c.in-Some.ensures.exact (λ entry. p (value_of entry)) (λ entry r says. test (value_of entry) r says) (parts_of g.M.Marking.mark g.M.Marking.note c.args.mark p entries c.self.invariant (rw c.self.view_is parts)) ∙ prefix_of value_of p entries)

pub returns-clause-exact : goal.returns-clause-exact
returns-clause-exact g c = λ p test parts.
    let entries = c.self.inside.entries in
    rw (← c.self.view_is) (sym (prefix_of value_of p entries) ∙ c.in-None.ensures.exact (λ entry. p (value_of entry)) (λ entry r says. test (value_of entry) r says) (parts_of g.M.Marking.mark g.M.Marking.note c.args.mark p entries c.self.invariant (rw c.self.view_is parts)))
