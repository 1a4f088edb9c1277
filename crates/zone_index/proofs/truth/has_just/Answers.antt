use Rattle.zone_index.proofs.truth.has_just.Goals as goal

pub returns : goal.returns
returns c = rw c.rtype.ensures at (rw c.items.ensures at c.in_ok-just.ensures)
