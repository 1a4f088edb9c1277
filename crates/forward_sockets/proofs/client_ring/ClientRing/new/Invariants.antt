use Rattle.forward_sockets.proofs.RingLemmas.{AreNew}
use Rattle.forward_sockets.proofs.client_ring.ClientRing.new.Given as goal

abbrev pub invariant-loop-place : goal.invariant-loop-place
invariant-loop-place l = AreNew l.places.items l.place
