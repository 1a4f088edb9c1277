use Rattle.std.proofs.Common.{◌-◌, length}
use Rattle.page_list.specs.Rows.{shifted}
use Rattle.page_list.proofs.InPlace.{HasChanged}
use Rattle.page_list.proofs.in_place.shift_from.Given as goal

abbrev pub invariant-loop-i : goal.invariant-loop-i
invariant-loop-i g l = HasChanged (shifted l.old l.new) l.initial.slots.items l.from l.i l.slots.items

abbrev pub decreases-loop-i : goal.decreases-loop-i
decreases-loop-i g l = length l.slots.items - l.i
