use Rattle.std.proofs.Common.{◌≡◌, take}
use Rattle.page_list.proofs.row.copies_of.Given as goal

abbrev pub invariant-loop-slot : goal.invariant-loop-slot
invariant-loop-slot g l = l.all.items ≡ take l.slot-index l.slots
