use Rattle.zone_index.proofs.truth.is_true_set.Goals as goal

pub returns : goal.returns
returns c = rw c.zone-top.ensures at (rw c.owner-owner.ensures at c.in_ok-is.ensures)
