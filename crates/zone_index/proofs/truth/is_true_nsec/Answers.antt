use Rattle.zone_index.proofs.truth.is_true_nsec.Goals as goal

pub returns : goal.returns
returns c = rw c.zone-top.ensures at (rw c.owner-owner.ensures at (rw c.next-next.ensures at (rw c.types-types.ensures at c.is_nsec_of.ensures)))
