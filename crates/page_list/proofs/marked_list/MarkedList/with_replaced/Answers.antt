use Rattle.std.proofs.Common.{◌∙◌, map}
use Rattle.std.specs.Arc.{arc_value}
use Rattle.page_list.proofs.Values.{replaced_values, replaced_marked}
use Rattle.page_list.proofs.marked_list.MarkedList.with_replaced.Goals as goal

pub invariant_of-result : goal.invariant_of-result
invariant_of-result g c =
    replaced_marked g.M.Marking.mark g.M.Marking.note c.in_ok-clone.clone c.as_slice.result.now c.in_ok-entries.entries (map arc_value c.args.items.items) c.args.from c.args.to c.in_ok-entries.ensures (c.as_slice.ensures.value ∙ c.in_ok-marked.ensures) (rw c.in_ok-clone.ensures c.self.invariant)

pub returns : goal.returns
returns g c =
    let items = map arc_value c.args.items.items in
    rw (← c.self.view_is, ← c.in_ok-clone.ensures)
    (replaced_values g.M.Marking.mark g.M.Marking.note c.in_ok-clone.clone c.as_slice.result.now c.in_ok-entries.entries items c.args.from c.args.to c.in_ok-entries.ensures (c.as_slice.ensures.value ∙ c.in_ok-marked.ensures))
