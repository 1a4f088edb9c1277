use Rattle.std.proofs.Common.{◌≡◌, ◌++◌, map}
use Rattle.std.specs.Arc.{arc_value}
use Rattle.page_list.specs.Marks.{mark_of}
use Rattle.page_list.specs.Rows.{block_of}
use Rattle.page_list.proofs.Slots.{HasSlots}
use Rattle.page_list.proofs.row.slots_of.Given as goal

abbrev pub invariant-loop-block : goal.invariant-loop-block
invariant-loop-block g l = record {
  shown : map block_of l.slots.items ++ map arc_value l.block-iterator.rest.items ≡ map arc_value l.fn.blocks.items;
  has : HasSlots mark_of g.B.Block.entries l.slots.items l.end;
}
