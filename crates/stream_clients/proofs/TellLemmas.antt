-- What a part of a client's connection tells of all that was done with it.
use Rattle.std.proofs.Common.{◌≡◌, ◌∙◌, ℕ, ◌+◌, ◌^◌, ⊎_elim, Bool, true, false, cond, List, [], ◌∷◌, ◌++◌, refl, ap, sym, subst, append_assoc, eq-eqb, Option, Some, None}
use Rattle.std.specs.Prelude.{◌==◌, ◌&&◌, is_none, nat_lt, option_and_then}
use Rattle.std.specs.List.{position}
use Rattle.std.proofs.lemmas.Bool.{and_from, and_parts, eqb-true}
use Rattle.std.proofs.lemmas.List.{append-nil}
use Rattle.std.proofs.lemmas.List.Quantifiers.{position-Some}
use Rattle.stream_clients.specs.Number.{Client}
use Rattle.stream_clients.specs.Connection.{Change, Connection, fresh}
use Rattle.stream_clients.specs.Places.{Place, begun, begun_at, changed, connection_in, connection_of, is_free, no_connections, place_at, unused}
use Rattle.stream_clients.specs.Steps.{IsThere, Step, after_one, if_client, is_client}
use Rattle.stream_clients.specs.Laws.{AreThere, after, over}
use Rattle.stream_clients.proofs.PlaceLemmas.{none_in_unused, none_yet, of_changed, of_changed_other, set_place}
use Rattle.stream_clients.proofs.RunLemmas.{cases_client, gone_run, open_is_spent, spent_after}

-- ---- whose a call is

pub is_itself : (client : Client) → is_client client client ≡ true
is_itself client =
    and_from (client.place == client.place) (client.generation == client.generation) (eq-eqb client.place client.place refl) (eq-eqb client.generation client.generation refl)

pub is_no_other : (client other : Client) → (client ≡ other → ⊥) → is_client client other ≡ false
is_no_other client other ne = by (client.place == other.place) (client.generation == other.generation) refl refl
  where
    by : (p g : Bool) → client.place == other.place ≡ p → client.generation == other.generation ≡ g → p && g ≡ false
    by true true place generation =
        let same_place = eqb-true client.place other.place place in
        let same_generation = eqb-true client.generation other.generation generation in
        absurd (ne (λ i. record { place = same_place i; generation = same_generation i }))
    by true false place generation = refl
    by false g place generation = refl

pub nothing_for : {X : Type 0} (client other : Client) → if_client {X = X} client other [] ≡ []
nothing_for {X = X} client other = by (is_client client other)
  where
    nothing : List X
    nothing = []

    by : (b : Bool) → cond b nothing nothing ≡ nothing
    by true = refl
    by false = refl

-- what a free place has is no connection
pub none_in_free : (generation : ℕ) (place : Place) → is_free place ≡ true → connection_in generation place ≡ None
none_in_free generation place free = by place.connection (place.generation == generation) (and_parts (is_none place.connection) (nat_lt (place.generation + 1) (2 ^ 58)) free).0
  where
    by : (connection : Option Connection) (b : Bool) → is_none connection ≡ true → cond b connection None ≡ None
    by None true none = refl
    by None false none = refl
    by (Some c) b none = absurd (cc none)

pub none_open : (client : Client) → connection_of client no_connections ≡ None
unfolding no_connections
none_open client = ap (connection_in client.generation) (none_yet 32 client.place) ∙ none_in_unused client.generation

-- a call and then the rest of a run
joined : (out out' between before came cames last : List ℕ) → out ++ between ≡ before ++ came → out' ++ last ≡ between ++ cames → (out ++ out') ++ last ≡ before ++ (came ++ cames)
joined out out' between before came cames last first later =
    append_assoc out out' last ∙ ap (λ (l : List ℕ). out ++ l) later ∙ sym (append_assoc out between cames)
    ∙ ap (λ (l : List ℕ). l ++ cames) first ∙ append_assoc before came cames

-- what each call of a run comes with
abbrev pub Along : (Step → List Place → Type 0) → List Step → List Place → Type 0
Along There [] places = Unit {0}
Along There (step ∷ more) places = There step places × Along There more (after_one step places)

pub all_along : (steps : List Step) (places : List Place) → Along (λ step places. Unit {0}) steps places
all_along [] places = tt
all_along (step ∷ more) places = (tt, all_along more (after_one step places))

pub there_along : (steps : List Step) (places : List Place) → AreThere steps places → Along IsThere steps places
there_along [] places are = tt
there_along (step ∷ more) places are = (are.0, there_along more (after_one step places) are.1)

-- A part of a connection that is empty when it begins
module _ (part : Connection → List ℕ) (begins_empty : (now : ℕ) → part (fresh now) ≡ []) where
  abbrev pub part_of : Option Connection → List ℕ
  part_of None = []
  part_of (Some c) = part c

  -- A call takes this out of it, and brings that. Of a connection that is open neither before nor after there is neither
  abbrev pub IsTold : Option Connection → Option Connection → List ℕ → List ℕ → Type 0
  IsTold before (Some c) out came = out ++ part c ≡ part_of before ++ came
  IsTold before None out came = before ≡ None → (out ≡ []) × (came ≡ [])

  pub untouched : (connection : Option Connection) → IsTold connection connection [] []
  untouched None = λ e. (refl, refl)
  untouched (Some c) = sym (append-nil (part c))

  -- ---- a call for one client

  -- tells of it what it does to its connection, and of others nothing
  pub by_change : (client other : Client) (change : Change) (places : List Place) (out came : List ℕ) → (other ≡ client → IsTold (connection_of client places) (option_and_then change (connection_of client places)) out came)
      → IsTold (connection_of client places) (connection_of client (changed other change places)) (if_client other client out) (if_client other client came)
  by_change client other change places out came own = ⊎_elim
      (λ (e : other ≡ client). subst (λ (o : Client). IsTold (connection_of client places) (connection_of client (changed o change places)) (if_client o client out) (if_client o client came)) (sym e) (mine e))
      others
      (cases_client other client)
    where
      mine : other ≡ client → IsTold (connection_of client places) (connection_of client (changed client change places)) (if_client client client out) (if_client client client came)
      mine e = rw (of_changed client change places, is_itself client) (own e)

      others : (other ≡ client → ⊥) → IsTold (connection_of client places) (connection_of client (changed other change places)) (if_client other client out) (if_client other client came)
      others ne = rw (of_changed_other other client change places ne, is_no_other other client ne) (untouched (connection_of client places))

  -- where it brings nothing
  pub by_taking : (client other : Client) (change : Change) (places : List Place) (out : List ℕ) → (other ≡ client → IsTold (connection_of client places) (option_and_then change (connection_of client places)) out [])
      → IsTold (connection_of client places) (connection_of client (changed other change places)) (if_client other client out) []
  by_taking client other change places out own =
      subst (λ (none : List ℕ). IsTold (connection_of client places) (connection_of client (changed other change places)) (if_client other client out) none) (nothing_for other client)
      (by_change client other change places out [] own)

  -- where it takes nothing
  pub by_bringing : (client other : Client) (change : Change) (places : List Place) (came : List ℕ) → IsTold (connection_of client places) (option_and_then change (connection_of client places)) [] came
      → IsTold (connection_of client places) (connection_of client (changed other change places)) [] (if_client other client came)
  by_bringing client other change places came own =
      subst (λ (none : List ℕ). IsTold (connection_of client places) (connection_of client (changed other change places)) none (if_client other client came)) (nothing_for other client)
      (by_change client other change places [] came (λ e. own))

  -- where it does neither
  pub by_quiet : (client other : Client) (change : Change) (places : List Place) → IsTold (connection_of client places) (option_and_then change (connection_of client places)) [] []
      → IsTold (connection_of client places) (connection_of client (changed other change places)) [] []
  by_quiet client other change places own =
      subst (λ (none : List ℕ). IsTold (connection_of client places) (connection_of client (changed other change places)) none []) (nothing_for other client)
      (by_taking client other change places [] (λ e. own))

  -- ---- a client connects

  begins : (generation now : ℕ) (place : Place) (before : Option Connection) → before ≡ None → IsTold before (connection_in generation (begun now place)) [] []
  begins generation now place before none = by (place.generation + 1 == generation)
    where
      by : (b : Bool) → IsTold before (cond b (Some (fresh now)) None) [] []
      by true = begins_empty now ∙ ap (λ (c : Option Connection). part_of c ++ []) (sym none)
      by false = λ e. (refl, refl)

  pub by_begun : (client : Client) (now : ℕ) (free : Option ℕ) (places : List Place) → position is_free places ≡ free → IsTold (connection_of client places) (connection_of client (begun_at now free places)) [] []
  by_begun client now None places is = untouched (connection_of client places)
  by_begun client now (Some k) places is = ⊎_elim
      (λ at. rw at.2 (begins client.generation now (place_at places k) (connection_of client places) (none_here at.0)))
      (λ same. rw same (untouched (connection_of client places)))
      (set_place places k (begun now (place_at places k)) client.place)
    where
      none_here : client.place ≡ k → connection_of client places ≡ None
      none_here e =
          ap (λ (i : ℕ). connection_in client.generation (place_at places i)) e
          ∙ none_in_free client.generation (place_at places k) (position-Some is_free places k unused is).1

  -- ---- a run

  pub run_told : (client : Client) (There : Step → List Place → Type 0) (out came : Step → List Place → List ℕ)
      → ((step : Step) (places : List Place) → There step places → IsTold (connection_of client places) (connection_of client (after_one step places)) (out step places) (came step places))
      → (steps : List Step) (places : List Place) (c : Connection) → Along There steps places → connection_of client (after steps places) ≡ Some c
      → over out steps places ++ part c ≡ part_of (connection_of client places) ++ over came steps places
  run_told client There out came each [] places c there still = ap part_of (sym still) ∙ sym (append-nil (part_of (connection_of client places)))
  run_told client There out came each (step ∷ more) places c there still =
      by (connection_of client places) (connection_of client (after_one step places)) refl refl (each step places there.0) (run_told client There out came each more (after_one step places) c there.1 still)
    where
      by : (before between : Option Connection) → connection_of client places ≡ before → connection_of client (after_one step places) ≡ between
          → IsTold before between (out step places) (came step places)
          → over out more (after_one step places) ++ part c ≡ part_of between ++ over came more (after_one step places)
          → over out (step ∷ more) places ++ part c ≡ part_of before ++ over came (step ∷ more) places
      by before (Some b) is is' tells later =
          joined (out step places) (over out more (after_one step places)) (part b) (part_of before) (came step places) (over came more (after_one step places)) (part c) tells later
      by None None is is' tells later =
          let none = tells refl in
          joined (out step places) (over out more (after_one step places)) [] [] (came step places) (over came more (after_one step places)) (part c) (append-nil (out step places) ∙ none.0 ∙ sym none.1) later
      by (Some b) None is is' tells later =
          let spent = spent_after client step places (open_is_spent client places b is) in
          absurd (cc (sym (gone_run client more (after_one step places) spent is') ∙ still))
