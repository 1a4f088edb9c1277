use Rattle.std.proofs.Common.{◌≡◌, ◌++◌, map}
use Rattle.std.specs.Arc.{arc_value}
use Rattle.page_list.specs.Marks.{marked_by}
use Rattle.page_list.proofs.marked_list.marked_entries.Given as goal

abbrev pub invariant-loop-share : goal.invariant-loop-share
invariant-loop-share g l =
    l.made.items ++ map (marked_by g.M.Marking.mark g.M.Marking.note) (map arc_value l.share-iterator.rest.items)
    ≡ map (marked_by g.M.Marking.mark g.M.Marking.note) (map arc_value l.fn.items.items)
