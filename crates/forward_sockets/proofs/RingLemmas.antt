-- Clients in a ring of places.
use Rattle.std.proofs.Common.{◌≡◌, ◌∙◌, ℕ, ◌+◌, ◌-◌, ◌%◌, ◌<◌, ◌≤◌, ◌⊎◌, inl, inr, ⊎_elim, true, false, cond, List, [], ◌∷◌, ◌++◌, length, length-append, get_or, set, refl, ap, sym, subst, arith, Option, None}
use Rattle.std.specs.Prelude.{◌==◌, ◌≢◌, IsSome, is_some}
use Rattle.std.proofs.Math.Nat.{add-mod_right, mod-eq_of_lt}
use Rattle.std.proofs.lemmas.Bool.{cases_eq, cases_lt, eq-eqb, ne_eqb}
use Rattle.std.proofs.Math.Seq.{get_or-append_seam}
use Rattle.std.proofs.lemmas.List.{get_or-set_same, get_or-set_other, get_or_append_left, get_or_default, length-set}
use Rattle.forward_sockets.specs.declared.client_ring.ClientAddress.{ClientAddress}
use Rattle.forward_sockets.specs.declared.client_ring.ClientPlace.{ClientPlace}
use Rattle.forward_sockets.specs.declared.client_ring.TheConstants.{PLACES}
use Rattle.forward_sockets.specs.ClientRing.{place_of, place_at, client_of, client_at, IsFreeAt, IsRing}

-- ---- one place

pub named_own : (number : ℕ) (client : Option ClientAddress) → client_of number (place_of number client) ≡ client
named_own number client = rw (eq-eqb number number refl) refl

pub named_other : (number other : ℕ) (client : Option ClientAddress) → other ≢ number → client_of other (place_of number client) ≡ None
named_other number other client differ = rw (ne_eqb number other (λ e. differ (sym e))) refl

pub named_free : (number : ℕ) (place : ClientPlace) → place.client ≡ None → client_of number place ≡ None
named_free number place free = elim (place.number == number) as (λ same. cond same place.client None ≡ None) [ true ↦ free | false ↦ refl ]

-- ---- a place is set

-- a number that differs from the place's own by whole rounds is the place's
pub own_number : (places : List ClientPlace) → IsRing places → (at : ℕ) → at < PLACES → (place : ClientPlace) → place ≡ get_or places at place → (number : ℕ) → number % PLACES ≡ place.number % PLACES → number % PLACES ≡ at
own_number places ring at within place is number same =
    let e : place ≡ place_at places at = is ∙ get_or_default places at place (place_of 0 None) (omega (arith, ring.all)) in
    same ∙ ap (λ (p : ClientPlace). p.number % PLACES) e ∙ ring.own at within

module _ (places : List ClientPlace) (ring : IsRing places) (at : ℕ) (within : at < PLACES) (number : ℕ) (own : number % PLACES ≡ at) (client : Option ClientAddress) where
  pub set_named : client_at (set places at (place_of number client)) number ≡ client
  set_named = rw (own, get_or-set_same places at (place_of number client) (place_of 0 None) (omega (arith, ring.all))) (named_own number client)

  -- what another number names, of the same place or of another
  pub set_other : (other : ℕ) → other ≢ number → ((other % PLACES ≡ at) × (client_at (set places at (place_of number client)) other ≡ None)) ⊎ (client_at (set places at (place_of number client)) other ≡ client_at places other)
  set_other other differ = ⊎_elim
      (λ e. inl (e, rw (e, get_or-set_same places at (place_of number client) (place_of 0 None) (omega (arith, ring.all))) (named_other number other client differ)))
      (λ e. inr (ap (client_of other) (get_or-set_other places at (other % PLACES) (place_of number client) (place_of 0 None) e)))
      (cases_eq (other % PLACES) at)

  pub set_none_else : (other : ℕ) → other ≢ number → IsSome (client_at (set places at (place_of number client)) other) → client_at (set places at (place_of number client)) other ≡ client_at places other
  set_none_else other differ some = ⊎_elim (λ h. gone h.1) (λ e. e) (set_other other differ)
    where
      gone : client_at (set places at (place_of number client)) other ≡ None → client_at (set places at (place_of number client)) other ≡ client_at places other
      gone none = let some_none : IsSome {T = ClientAddress} None = subst (λ (named : Option ClientAddress). IsSome named) none some in cc

  pub set_kept : IsFreeAt places at → (other : ℕ) → other ≢ number → client_at (set places at (place_of number client)) other ≡ client_at places other
  set_kept free other differ = ⊎_elim
      (λ h. h.1 ∙ sym (ap (λ (n : ℕ). client_of other (place_at places n)) h.0 ∙ named_free other (place_at places at) free))
      (λ e. e)
      (set_other other differ)

  pub set_ring : IsRing (set places at (place_of number client))
  set_ring = record {
    all = length-set places at (place_of number client) ∙ ring.all;
    own = λ j h. ⊎_elim
        (λ e. rw (e, get_or-set_same places at (place_of number client) (place_of 0 None) (omega (arith, ring.all))) own)
        (λ e. rw (get_or-set_other places at j (place_of number client) (place_of 0 None) e) (ring.own j h))
        (cases_eq j at);
  }

-- ---- a walk round the ring

-- each place comes
pub turn_to : (next at : ℕ) → next < PLACES → at < PLACES → (step : ℕ) × (step < PLACES) × ((next + step) % PLACES ≡ at)
turn_to next at n h = ⊎_elim
    (λ below. (at + PLACES - next, omega arith, turned below))
    (λ from. (at - next, omega arith, straight from))
    (cases_lt at next)
  where
    turned : at < next → (next + (at + PLACES - next)) % PLACES ≡ at
    turned below =
        let e : next + (at + PLACES - next) ≡ at + PLACES = omega arith in
        rw e (add-mod_right at PLACES ∙ mod-eq_of_lt h)

    straight : next ≤ at → (next + (at - next)) % PLACES ≡ at
    straight from =
        let e : next + (at - next) ≡ at = omega arith in
        rw e (mod-eq_of_lt h)

-- the next one isn't free either
pub more_taken : (places : List ClientPlace) (next n : ℕ) (place : ClientPlace) → IsRing places → place ≡ get_or places ((next + n) % PLACES) place → is_some place.client ≡ true → ((step : ℕ) → step < n → IsFreeAt places ((next + step) % PLACES) → ⊥) → (step : ℕ) → step < n + 1 → IsFreeAt places ((next + step) % PLACES) → ⊥
more_taken places next n place ring is taken before step h free = ⊎_elim
    (λ below. before step below free)
    (λ from. here (subst (λ (m : ℕ). IsFreeAt places ((next + m) % PLACES)) (omega arith) free))
    (cases_lt step n)
  where
    here : IsFreeAt places ((next + n) % PLACES) → ⊥
    here none =
        let e : place ≡ place_at places ((next + n) % PLACES) = is ∙ get_or_default places ((next + n) % PLACES) place (place_of 0 None) (omega (arith, ring.all)) in
        let empty : place.client ≡ None = ap (λ (p : ClientPlace). p.client) e ∙ none in
        let both : is_some {T = ClientAddress} None ≡ true = subst (λ (client : Option ClientAddress). is_some client ≡ true) empty taken in
        cc

-- where none is free of those that come, none is free
pub none_free : (places : List ClientPlace) (next : ℕ) → next < PLACES → ((step : ℕ) → step < PLACES → IsFreeAt places ((next + step) % PLACES) → ⊥) → (at : ℕ) → at < PLACES → IsFreeAt places at → ⊥
none_free places next n taken at h free =
    let way = turn_to next at n h in
    taken way.0 way.1 (subst (IsFreeAt places) (sym way.2) free)

-- ---- a new ring

-- so many places, each with its own number and without a client
pub record AreNew (places : List ClientPlace) (n : ℕ) : Type 0 where
  pub all : length places ≡ n
  pub own : (at : ℕ) → at < n → place_at places at ≡ place_of at None

pub new_begins : AreNew [] 0
new_begins = record { all = refl; own = λ at h. absurd (omega arith) }

pub new_more : (places : List ClientPlace) (n : ℕ) → AreNew places n → AreNew (places ++ place_of n None ∷ []) (n + 1)
new_more places n new = record {
  all = length-append places (place_of n None ∷ []) ∙ omega (arith, new.all);
  own = λ at h. ⊎_elim
      (λ before. get_or_append_left places (place_of n None ∷ []) (place_of 0 None) at (omega (arith, new.all)) ∙ new.own at before)
      (λ after. last at (omega arith))
      (cases_lt at n);
}
  where
    last : (at : ℕ) → at ≡ n → place_at (places ++ place_of n None ∷ []) at ≡ place_of at None
    last at e = subst (λ (m : ℕ). place_at (places ++ place_of n None ∷ []) m ≡ place_of m None) (sym e)
        (subst (λ (m : ℕ). place_at (places ++ place_of n None ∷ []) m ≡ place_of n None) new.all (get_or-append_seam places (place_of n None) [] (place_of 0 None)))

module _ (places : List ClientPlace) (new : AreNew places PLACES) where
  pub new_ring : IsRing places
  new_ring = record {
    all = new.all;
    own = λ at h. ap (λ (p : ClientPlace). p.number % PLACES) (new.own at h) ∙ mod-eq_of_lt h;
  }

  pub new_none : (number : ℕ) → client_at places number ≡ None
  new_none number = named_free number (place_at places (number % PLACES)) (ap (λ (p : ClientPlace). p.client) (new.own (number % PLACES) (omega arith)))
