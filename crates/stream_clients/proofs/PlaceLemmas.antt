-- What calls make of a place, and of the others.
use Rattle.std.proofs.Common.{◌≡◌, ◌≢◌, ◌∙◌, ℕ, zero, suc, ◌+◌, ◌<◌, ◌≤◌, ◌⊎◌, inl, inr, ⊎_elim, Bool, true, false, cond, List, [], ◌∷◌, length, set, replicate, refl, ap, sym, arith, Option, Some, None}
use Rattle.std.specs.Prelude.{◌==◌, ◌^◌, is_none, nat_lt, option_and_then}
use Rattle.std.specs.List.{position}
use Rattle.std.proofs.lemmas.Bool.{and_parts, cases_eq, cases_lt, eqb-true, le-ltb, lt-ltb, ltb-true, ne_eqb}
use Rattle.std.proofs.lemmas.List.Quantifiers.{position-Some}
use Rattle.std.proofs.lemmas.List.Sums.{position_or_len_is}
use Rattle.std.proofs.lemmas.List.{get_or_past, get_or-set_same, get_or-set_other, set_past}
use Rattle.stream_clients.specs.Number.{Client}
use Rattle.stream_clients.specs.Connection.{Change, Connection}
use Rattle.stream_clients.specs.Places.{Place, changed, changed_in, connection_in, connection_of, is_free, place_at, unused}

-- ---- one place

pub in_changed : (generation : ℕ) (change : Change) (place : Place) → connection_in generation (changed_in generation change place) ≡ option_and_then change (connection_in generation place)
in_changed generation change place = by (place.generation == generation)
  where
    by : (b : Bool) → cond b (cond b (option_and_then change place.connection) place.connection) None ≡ option_and_then change (cond b place.connection None)
    by true = refl
    by false = refl

pub in_changed_other : (generation other : ℕ) (change : Change) (place : Place) → (generation ≡ other → ⊥) → connection_in other (changed_in generation change place) ≡ connection_in other place
in_changed_other generation other change place ne = by (place.generation == other) (place.generation == generation) refl refl
  where
    by : (o g : Bool) → place.generation == other ≡ o → place.generation == generation ≡ g → cond o (cond g (option_and_then change place.connection) place.connection) None ≡ cond o place.connection None
    by true true is_other is = absurd (ne (sym (eqb-true place.generation generation is) ∙ eqb-true place.generation other is_other))
    by true false is_other is = refl
    by false g is_other is = refl

-- where the connection isn't still nothing changes
stays : (connection : Option Connection) (change : Change) (b : Bool) → cond b connection None ≡ None → cond b (option_and_then change connection) connection ≡ connection
stays None change true none = refl
stays (Some c) change true none = absurd (cc none)
stays connection change false none = refl

pub unchanged_in : (generation : ℕ) (change : Change) (place : Place) → connection_in generation place ≡ None → changed_in generation change place ≡ place
unchanged_in generation change place none =
    let same = stays place.connection change (place.generation == generation) none in
    (λ i. record { generation = place.generation; connection = same i })

-- an still connection is the place's last
pub is_last : (generation : ℕ) (place : Place) (c : Connection) → connection_in generation place ≡ Some c → place.generation ≡ generation
is_last generation place c still = by (place.generation == generation) refl still
  where
    by : (b : Bool) → place.generation == generation ≡ b → cond b place.connection None ≡ Some c → place.generation ≡ generation
    by true is still = eqb-true place.generation generation is
    by false is still = absurd (cc still)

-- a place has none but its last
pub none_of_another : (generation : ℕ) (place : Place) → (place.generation ≡ generation → ⊥) → connection_in generation place ≡ None
none_of_another generation place ne = ap (λ (b : Bool). cond b place.connection None) (ne_eqb place.generation generation ne)

pub none_in_unused : (generation : ℕ) → connection_in generation unused ≡ None
none_in_unused generation = by (0 == generation)
  where
    none : Option Connection
    none = None

    by : (b : Bool) → cond b none none ≡ none
    by true = refl
    by false = refl

-- ---- all places

-- what stands at a place after one was set
pub set_place : (places : List Place) (k : ℕ) (place : Place) (i : ℕ) → ((i ≡ k) × (k < length places) × (place_at (set places k place) i ≡ place)) ⊎ (place_at (set places k place) i ≡ place_at places i)
set_place places k place i = ⊎_elim
    (λ (e : i ≡ k). ⊎_elim
    (λ (h : k < length places). inl (e, h, ap (λ (j : ℕ). place_at (set places k place) j) e ∙ get_or-set_same places k place unused h))
    (λ (h : length places ≤ k). inr (ap (λ (ps : List Place). place_at ps i) (set_past places k place h)))
    (cases_lt k (length places)))
    (λ (ne : i ≡ k → ⊥). inr (get_or-set_other places k i place unused ne))
    (cases_eq i k)

pub none_yet : (n i : ℕ) → place_at (replicate n unused) i ≡ unused
none_yet zero i = refl
none_yet (suc n) zero = refl
none_yet (suc n) (suc i) = none_yet n i

set_same : (places : List Place) (k : ℕ) → set places k (place_at places k) ≡ places
set_same [] k = refl
set_same (p ∷ ps) zero = refl
set_same (p ∷ ps) (suc k) = ap (λ (qs : List Place). p ∷ qs) (set_same ps k)

pub gone_gets_nothing : (client : Client) (change : Change) (places : List Place) → connection_of client places ≡ None → changed client change places ≡ places
gone_gets_nothing client change places none =
    ap (set places client.place) (unchanged_in client.generation change (place_at places client.place) none) ∙ set_same places client.place

-- the client's own connection
pub of_changed : (client : Client) (change : Change) (places : List Place) → connection_of client (changed client change places) ≡ option_and_then change (connection_of client places)
of_changed client change places = ⊎_elim
    (λ (h : client.place < length places).
    ap (connection_in client.generation) (get_or-set_same places client.place (changed_in client.generation change (place_at places client.place)) unused h)
    ∙ in_changed client.generation change (place_at places client.place))
    (λ (h : length places ≤ client.place). past (get_or_past places client.place unused h) (set_past places client.place (changed_in client.generation change (place_at places client.place)) h))
    (cases_lt client.place (length places))
  where
    past : place_at places client.place ≡ unused → changed client change places ≡ places → connection_of client (changed client change places) ≡ option_and_then change (connection_of client places)
    past unset same =
        let none : connection_of client places ≡ None = ap (connection_in client.generation) unset ∙ none_in_unused client.generation in
        ap (connection_of client) same ∙ none ∙ ap (option_and_then change) (sym none)

-- another client's
pub of_changed_other : (client other : Client) (change : Change) (places : List Place) → (client ≡ other → ⊥) → connection_of other (changed client change places) ≡ connection_of other places
of_changed_other client other change places ne = ⊎_elim
    (λ at. ap (connection_in other.generation) at.2 ∙ here at.0)
    (λ same. ap (connection_in other.generation) same)
    (set_place places client.place (changed_in client.generation change (place_at places client.place)) other.place)
  where
    here : other.place ≡ client.place → connection_in other.generation (changed_in client.generation change (place_at places client.place)) ≡ connection_of other places
    here e =
        in_changed_other client.generation other.generation change (place_at places client.place) (λ (g : client.generation ≡ other.generation). ne (λ i. record { place = sym e i; generation = g i }))
        ∙ ap (λ (k : ℕ). connection_in other.generation (place_at places k)) (sym e)

pub others_left_alone : (client other : Client) (change : Change) (places : List Place) → client ≢ other → connection_of other (changed client change places) ≡ connection_of other places
others_left_alone = of_changed_other

-- ---- the first that is free

pub first_is : (places : List Place) (i : ℕ) → i < length places → ((k : ℕ) → k < i → is_free (place_at places k) ≡ false) → is_free (place_at places i) ≡ true → position is_free places ≡ Some i
first_is places i within before here =
    let first = position_or_len_is is_free places i unused (omega arith) before (λ h. here) in
    rw (first, lt-ltb i (length places) within)

pub none_is : (places : List Place) → ((k : ℕ) → k < length places → is_free (place_at places k) ≡ false) → position is_free places ≡ None
none_is places none =
    let first = position_or_len_is is_free places (length places) unused (omega arith) (λ k h. none k h) (λ h. absurd (omega arith)) in
    rw (first, le-ltb (length places) (length places) (omega arith))

-- it can have one more connection
pub free_has_room : (places : List Place) (k : ℕ) → position is_free places ≡ Some k → (place_at places k).generation + 1 < 2 ^ 58
free_has_room places k is =
    let free = (position-Some is_free places k unused is).1 in
    ltb-true ((place_at places k).generation + 1) (2 ^ 58) (and_parts (is_none (place_at places k).connection) (nat_lt ((place_at places k).generation + 1) (2 ^ 58)) free).1
