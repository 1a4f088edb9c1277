use Rattle.std.proofs.Common.{arith, subst}
use Rattle.forward_sockets.proofs.RingLemmas.{AreNew, new_begins, new_more, new_ring, new_none}
use Rattle.forward_sockets.proofs.client_ring.ClientRing.new.Goals as goal

pub loop-place-init : goal.loop-place-init
loop-place-init c = rw c.in_ok-places.ensures.items new_begins

pub loop-place-preserved : goal.loop-place-preserved
loop-place-preserved c = rw c.in_ok-push.ensures.items (new_more c.loop-place.places.items c.loop-place.place c.loop-place.invariant)

pub invariant_of-result : goal.invariant_of-result
invariant_of-result c = (new_ring c.loop-place.places.items (subst (AreNew c.loop-place.places.items) (omega arith) c.loop-place.invariant), omega arith)

pub returns : goal.returns
returns c = new_none c.loop-place.places.items (subst (AreNew c.loop-place.places.items) (omega arith) c.loop-place.invariant)
