use Rattle.std.proofs.Common.{[], ◌∷◌}
use Rattle.std.specs.Arc.{arc_value}
use Rattle.page_list.proofs.Values.{marked_item, one_value, replaced_marked}
use Rattle.page_list.proofs.marked_list.MarkedList.into_with_one.Goals as goal

pub invariant_of-result : goal.invariant_of-result
invariant_of-result g c =
    let mark = g.M.Marking.mark in
    let note = g.M.Marking.note in
    let is = marked_item mark note (arc_value c.args.item) c.deref.result.now c.deref-2.result.now c.mark-mark.result c.note-note.result c.of-entry.result c.from_ref.result.now c.deref.ensures c.mark-mark.ensures c.deref-2.ensures c.note-note.ensures c.of-entry.ensures c.from_ref.ensures.value in
    replaced_marked mark note c.self.inside.entries c.from_ref.result.now c.in_ok-entries.entries (arc_value c.args.item ∷ []) c.args.from c.args.to c.in_ok-entries.ensures is c.self.invariant

pub returns : goal.returns
returns g c =
    let mark = g.M.Marking.mark in
    let note = g.M.Marking.note in
    let is = marked_item mark note (arc_value c.args.item) c.deref.result.now c.deref-2.result.now c.mark-mark.result c.note-note.result c.of-entry.result c.from_ref.result.now c.deref.ensures c.mark-mark.ensures c.deref-2.ensures c.note-note.ensures c.of-entry.ensures c.from_ref.ensures.value in
    rw (← c.self.view_is) (one_value mark note c.self.inside.entries c.from_ref.result.now c.in_ok-entries.entries (arc_value c.args.item) c.args.from c.args.to c.in_ok-entries.ensures is)
