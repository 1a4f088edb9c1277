use Rattle.std.proofs.Common.{[], ◌∙◌}
use Rattle.page_list.proofs.Values.{no_value, replaced_marked}
use Rattle.page_list.proofs.marked_list.MarkedList.into_without_run.Goals as goal

pub invariant_of-result : goal.invariant_of-result
invariant_of-result g c =
    replaced_marked g.M.Marking.mark g.M.Marking.note c.self.inside.entries c.as_slice.result.now c.in_ok-entries.entries [] c.args.from c.args.to c.in_ok-entries.ensures (c.as_slice.ensures.value ∙ c.new-none.ensures.items) c.self.invariant

pub returns : goal.returns
returns g c =
    rw (← c.self.view_is) (no_value g.M.Marking.mark g.M.Marking.note c.self.inside.entries c.as_slice.result.now c.in_ok-entries.entries c.args.from c.args.to c.in_ok-entries.ensures (c.as_slice.ensures.value ∙ c.new-none.ensures.items))
