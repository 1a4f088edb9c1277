use Rattle.std.proofs.Common.{ℕ, ◌+◌, ◌%◌, ◌<◌, List, sym, subst, arith}
use Rattle.forward_sockets.specs.declared.client_ring.ClientPlace.{ClientPlace}
use Rattle.forward_sockets.specs.declared.client_ring.TheConstants.{PLACES}
use Rattle.forward_sockets.specs.ClientRing.{IsFreeAt}
use Rattle.forward_sockets.proofs.RingLemmas.{more_taken, none_free}
use Rattle.forward_sockets.proofs.client_ring.ClientRing.free_place.Goals as goal

pub loop-step-preserved : goal.loop-step-preserved
loop-step-preserved c = more_taken c.self.inside.places.items c.self.inside.next c.loop-step.step c.index.result.now c.self.invariant.0 c.index.ensures c.if-is_none.ensures c.loop-step.invariant

pub returns-clause-free : goal.returns-clause-free
returns-clause-free c = λ at h free.
    let places = c.self.inside.places.items in
    let taken : (step : ℕ) → step < PLACES → IsFreeAt places ((c.self.inside.next + step) % PLACES) → ⊥ = λ step within. c.loop-step.invariant step (omega arith) in
    absurd (none_free places c.self.inside.next c.self.invariant.1 taken at h (subst (λ (ps : List ClientPlace). IsFreeAt ps at) (sym c.self.view_is) free))
