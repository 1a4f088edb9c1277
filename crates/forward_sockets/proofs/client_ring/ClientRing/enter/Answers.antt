use Rattle.std.proofs.Common.{◌≡◌, ◌%◌, List, set, subst, sym, arith, Some}
use Rattle.forward_sockets.specs.declared.client_ring.ClientPlace.{ClientPlace}
use Rattle.forward_sockets.specs.declared.client_ring.TheConstants.{PLACES}
use Rattle.forward_sockets.specs.ClientRing.{IsFreeAt, client_at, place_of}
use Rattle.forward_sockets.proofs.RingLemmas.{own_number, set_named, set_none_else, set_kept, set_ring}
use Rattle.forward_sockets.proofs.client_ring.ClientRing.enter.Goals as goal

-- the new number is of the place
own : (c : goal.After-self-2-1) → c.number_after-number.result % PLACES ≡ c.free_place-at.result
own c = own_number c.self.inside.places.items c.self.invariant.0 c.free_place-at.result c.free_place-at.ensures.within c.index.result.now c.index.ensures c.number_after-number.result c.number_after-number.ensures.place

pub invariant_of-self : goal.invariant_of-self
invariant_of-self c = (set_ring c.self.inside.places.items c.self.invariant.0 c.free_place-at.result c.free_place-at.ensures.within c.number_after-number.result (own c) (Some c.args.client), omega arith)

pub returns-clause-named : goal.returns-clause-named
returns-clause-named c = set_named c.self.inside.places.items c.self.invariant.0 c.free_place-at.result c.free_place-at.ensures.within c.number_after-number.result (own c) (Some c.args.client)

pub returns-clause-none_else : goal.returns-clause-none_else
returns-clause-none_else c = λ other differ some.
    let new = set c.self.inside.places.items c.free_place-at.result (place_of c.number_after-number.result (Some c.args.client)) in
    subst (λ (old : List ClientPlace). client_at new other ≡ client_at old other) c.self.view_is
    (set_none_else c.self.inside.places.items c.self.invariant.0 c.free_place-at.result c.free_place-at.ensures.within c.number_after-number.result (own c) (Some c.args.client) other differ some)

pub returns-clause-kept : goal.returns-clause-kept
returns-clause-kept c = λ other at differ within free.
    let new = set c.self.inside.places.items c.free_place-at.result (place_of c.number_after-number.result (Some c.args.client)) in
    let here = subst (λ (old : List ClientPlace). IsFreeAt old c.free_place-at.result) (sym c.self.view_is) (c.free_place-at.ensures.free at within free) in
    subst (λ (old : List ClientPlace). client_at new other ≡ client_at old other) c.self.view_is
    (set_kept c.self.inside.places.items c.self.invariant.0 c.free_place-at.result c.free_place-at.ensures.within c.number_after-number.result (own c) (Some c.args.client) here other differ)
