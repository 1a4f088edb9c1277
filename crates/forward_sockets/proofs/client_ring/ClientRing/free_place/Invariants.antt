use Rattle.std.proofs.Common.{ℕ, ◌+◌, ◌%◌, ◌<◌}
use Rattle.forward_sockets.specs.ClientRing.{IsFreeAt}
use Rattle.forward_sockets.specs.declared.client_ring.TheConstants.{PLACES}
use Rattle.forward_sockets.proofs.client_ring.ClientRing.free_place.Given as goal

abbrev pub invariant-loop-step : goal.invariant-loop-step
invariant-loop-step l = (step : ℕ) → step < l.step → IsFreeAt l.self-inside.places.items ((l.self-inside.next + step) % PLACES) → ⊥
