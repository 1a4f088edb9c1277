use Rattle.forwarding.proofs.TickLemmas.{drawn_more, drawn_none}
use Rattle.forwarding.proofs.ticking.draw.Goals as goal

pub loop-slot-init : goal.loop-slot-init
loop-slot-init g c = drawn_none 256

pub loop-slot-preserved : goal.loop-slot-preserved
loop-slot-preserved g c = drawn_more c.loop-slot.ids c.loop-slot.slot c.draw_for.result c.draw_for.ensures c.loop-slot.invariant
