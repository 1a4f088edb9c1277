-- What comes over a client's connection, and the messages in it.
use Rattle.std.proofs.Common.{◌≡◌, ◌∙◌, ℕ, ◌+◌, ◌≤◌, ⊎_elim, Bool, true, false, cond, List, [], ◌∷◌, ◌++◌, drop, refl, ap, sym, subst, arith, Option, Some, None, All}
use Rattle.std.specs.Prelude.{◌==◌, option_and_then}
use Rattle.std.specs.List.{flat_map, position}
use Rattle.std.proofs.lemmas.Grind.{flat_map-append}
use Rattle.std.proofs.lemmas.List.{append-nil}
use Rattle.std.proofs.lemmas.List.Elements.{All-append, All-cons, All-nil}
use Rattle.stream_front.specs.Split.{IsFramed, framed}
use Rattle.stream_clients.specs.declared.next.Next.TheVariants as next
use Rattle.stream_clients.specs.Number.{Client}
use Rattle.stream_clients.specs.Connection.{Change, Connection, behind_in, closed, fresh, message_in, passed, replied, unreplied, with_octets, written}
use Rattle.stream_clients.specs.Places.{IsNextOf, Place, begun, begun_at, changed, connection_in, connection_of, is_free, no_connections, place_at}
use Rattle.stream_clients.specs.Steps.{IsThere, Step, Opened, Took, Passed, Replied, Unreplied, Written, Closed, after_one, if_client, if_open, is_client, message_by, messages_of, taken_by}
use Rattle.stream_clients.specs.Laws.{AreThere, EachStreamIsSplit, after, made, over}
use Rattle.stream_clients.proofs.PlaceLemmas.{of_changed, of_changed_other, set_place}
use Rattle.stream_clients.proofs.RunLemmas.{cases_client}
use Rattle.stream_clients.proofs.TellLemmas as tell

abbrev left_part : Connection → List ℕ
left_part c = c.left

abbrev IsTold : Option Connection → Option Connection → List ℕ → List ℕ → Type 0
IsTold = tell.IsTold left_part (λ now. refl)

-- ---- what a call does to a connection

own_took : (octets : List ℕ) (connection : Option Connection) → IsTold connection (option_and_then (with_octets octets) connection) [] (if_open connection octets)
own_took octets None = λ e. (refl, refl)
own_took octets (Some c) = refl

own_passed : (connection : Option Connection) → IsNextOf connection next.Message → IsTold connection (option_and_then passed connection) (flat_map framed (messages_of connection)) []
own_passed None there = λ e. (refl, refl)
own_passed (Some c) there =
    ap (λ (l : List ℕ). l ++ behind_in c.left) (append-nil (framed (message_in c.left))) ∙ sym there.0.written ∙ sym (append-nil c.left)

own_unreplied : (now : ℕ) (connection : Option Connection) → IsTold connection (option_and_then (unreplied now) connection) [] []
own_unreplied now None = λ e. (refl, refl)
own_unreplied now (Some c) = sym (append-nil c.left)

own_replied : (octets : List ℕ) (now : ℕ) (connection : Option Connection) → IsTold connection (option_and_then (replied octets now) connection) [] []
own_replied octets now None = λ e. (refl, refl)
own_replied octets now (Some c) = sym (append-nil c.left)

own_written : (count now : ℕ) (connection : Option Connection) → IsTold connection (option_and_then (written count now) connection) [] []
own_written count now None = λ e. (refl, refl)
own_written count now (Some c) = by (count == 0)
  where
    by : (b : Bool) → IsTold (Some c) (cond b (Some c) (Some (record c { output = drop count c.output; since = now }))) [] []
    by true = sym (append-nil c.left)
    by false = sym (append-nil c.left)

own_closed : (connection : Option Connection) → IsTold connection (option_and_then closed connection) [] []
own_closed None = λ e. (refl, refl)
own_closed (Some c) = λ e. (refl, refl)

-- ---- any call

framed_if : (client other : Client) (messages : List (List ℕ)) → flat_map framed (if_client other client messages) ≡ if_client other client (flat_map framed messages)
framed_if client other messages = by (is_client other client)
  where
    by : (b : Bool) → flat_map framed (cond b messages []) ≡ cond b (flat_map framed messages) []
    by true = refl
    by false = refl

told : (client : Client) (step : Step) (places : List Place) → IsThere step places → IsTold (connection_of client places) (connection_of client (after_one step places)) (flat_map framed (message_by client step places)) (taken_by client step places)
told client (Opened now) places there = tell.by_begun left_part (λ now. refl) client now (position is_free places) places refl
told client (Took other octets) places there =
    tell.by_bringing left_part (λ now. refl) client other (with_octets octets) places (if_open (connection_of client places) octets) (own_took octets (connection_of client places))
told client (Passed other) places there =
    let messages = messages_of (connection_of client places) in
    subst (λ (l : List ℕ). IsTold (connection_of client places) (connection_of client (changed other passed places)) l []) (sym (framed_if client other messages))
    (tell.by_taking left_part (λ now. refl) client other passed places (flat_map framed messages)
    (λ (e : other ≡ client). own_passed (connection_of client places) (subst (λ (o : Client). IsNextOf (connection_of o places) next.Message) e there)))
told client (Replied other octets now) places there = tell.by_quiet left_part (λ now. refl) client other (replied octets now) places (own_replied octets now (connection_of client places))
told client (Unreplied other now) places there = tell.by_quiet left_part (λ now. refl) client other (unreplied now) places (own_unreplied now (connection_of client places))
told client (Written other count now) places there = tell.by_quiet left_part (λ now. refl) client other (written count now) places (own_written count now (connection_of client places))
told client (Closed other) places there = tell.by_quiet left_part (λ now. refl) client other closed places (own_closed (connection_of client places))

-- ---- a run

framed_over : (client : Client) (steps : List Step) (places : List Place) → over (λ step places. flat_map framed (message_by client step places)) steps places ≡ flat_map framed (over (message_by client) steps places)
framed_over client [] places = refl
framed_over client (step ∷ more) places =
    ap (λ (l : List ℕ). flat_map framed (message_by client step places) ++ l) (framed_over client more (after_one step places))
    ∙ sym (flat_map-append framed (message_by client step places) (over (message_by client) more (after_one step places)))

whole_message : (connection : Option Connection) → IsNextOf connection next.Message → All IsFramed (messages_of connection)
whole_message None there = All-nil IsFramed
whole_message (Some c) there = All-cons IsFramed _ [] there.0.each (All-nil IsFramed)

whole_if : (client other : Client) (places : List Place) → IsNextOf (connection_of other places) next.Message → All IsFramed (if_client other client (messages_of (connection_of client places)))
whole_if client other places there = ⊎_elim
    (λ (e : other ≡ client). subst (λ (o : Client). All IsFramed (if_client o client (messages_of (connection_of client places)))) (sym e)
    (rw (tell.is_itself client) (whole_message (connection_of client places) (subst (λ (o : Client). IsNextOf (connection_of o places) next.Message) e there))))
    (λ (ne : other ≡ client → ⊥). rw (tell.is_no_other other client ne) (All-nil IsFramed))
    (cases_client other client)

framed_by : (client : Client) (step : Step) (places : List Place) → IsThere step places → All IsFramed (message_by client step places)
framed_by client (Opened now) places there = All-nil IsFramed
framed_by client (Took other octets) places there = All-nil IsFramed
framed_by client (Passed other) places there = whole_if client other places there
framed_by client (Replied other octets now) places there = All-nil IsFramed
framed_by client (Unreplied other now) places there = All-nil IsFramed
framed_by client (Written other count now) places there = All-nil IsFramed
framed_by client (Closed other) places there = All-nil IsFramed

each_framed : (client : Client) (steps : List Step) (places : List Place) → AreThere steps places → All IsFramed (over (message_by client) steps places)
each_framed client [] places there = All-nil IsFramed
each_framed client (step ∷ more) places there =
    All-append IsFramed (message_by client step places) (over (message_by client) more (after_one step places)) (framed_by client step places there.0)
    (each_framed client more (after_one step places) there.1)

pub each_stream_is_split : EachStreamIsSplit
each_stream_is_split steps client c there still =
    let told_all = tell.run_told left_part (λ now. refl) client IsThere (λ step places. flat_map framed (message_by client step places)) (taken_by client) (told client) steps no_connections c (tell.there_along steps no_connections there) still in
    record {
      written =
          sym (ap (λ (l : List ℕ). l ++ c.left) (sym (framed_over client steps no_connections)) ∙ told_all
          ∙ ap (λ (before : Option Connection). tell.part_of left_part (λ now. refl) before ++ over (taken_by client) steps no_connections) (tell.none_open client));
      each = each_framed client steps no_connections there;
    }

-- ---- how many have no reply

abbrev Few : Option Connection → Type 0
Few None = Unit {0}
Few (Some c) = c.unanswered ≤ 32

few_same : (connection : Option Connection) (change : Change) → ((c : Connection) → Few (Some c) → Few (change c)) → Few connection → Few (option_and_then change connection)
few_same None change keeps few = tt
few_same (Some c) change keeps few = keeps c few

few_changed : (client other : Client) (change : Change) (places : List Place) → (other ≡ client → Few (option_and_then change (connection_of client places))) → Few (connection_of client places) → Few (connection_of client (changed other change places))
few_changed client other change places own few = ⊎_elim
    (λ (e : other ≡ client). subst (λ (o : Client). Few (connection_of client (changed o change places))) (sym e) (subst Few (sym (of_changed client change places)) (own e)))
    (λ (ne : other ≡ client → ⊥). subst Few (sym (of_changed_other other client change places ne)) few)
    (cases_client other client)

few_passed : (connection : Option Connection) → IsNextOf connection next.Message → Few (option_and_then passed connection)
few_passed None there = tt
few_passed (Some c) there = omega (arith, there.1)

few_written : (count now : ℕ) (c : Connection) → Few (Some c) → Few (written count now c)
few_written count now c few = by (count == 0)
  where
    by : (b : Bool) → Few (cond b (Some c) (Some (record c { output = drop count c.output; since = now })))
    by true = few
    by false = few

few_begun : (client : Client) (now : ℕ) (free : Option ℕ) (places : List Place) → Few (connection_of client places) → Few (connection_of client (begun_at now free places))
few_begun client now None places few = few
few_begun client now (Some k) places few = ⊎_elim
    (λ at. subst (λ (p : Place). Few (connection_in client.generation p)) (sym at.2) (begins ((place_at places k).generation + 1 == client.generation)))
    (λ same. subst (λ (p : Place). Few (connection_in client.generation p)) (sym same) few)
    (set_place places k (begun now (place_at places k)) client.place)
  where
    begins : (b : Bool) → Few (cond b (Some (fresh now)) None)
    begins true = omega arith
    begins false = tt

few_after : (client : Client) (step : Step) (places : List Place) → IsThere step places → Few (connection_of client places) → Few (connection_of client (after_one step places))
few_after client (Opened now) places there few = few_begun client now (position is_free places) places few
few_after client (Took other octets) places there few = few_changed client other (with_octets octets) places (λ e. few_same (connection_of client places) (with_octets octets) (λ c h. h) few) few
few_after client (Passed other) places there few =
    few_changed client other passed places (λ e. few_passed (connection_of client places) (subst (λ (o : Client). IsNextOf (connection_of o places) next.Message) e there)) few
few_after client (Replied other octets now) places there few = few_changed client other (replied octets now) places (λ e. few_same (connection_of client places) (replied octets now) (λ c h. omega arith) few) few
few_after client (Unreplied other now) places there few = few_changed client other (unreplied now) places (λ e. few_same (connection_of client places) (unreplied now) (λ c h. omega arith) few) few
few_after client (Written other count now) places there few = few_changed client other (written count now) places (λ e. few_same (connection_of client places) (written count now) (few_written count now) few) few
few_after client (Closed other) places there few = few_changed client other closed places (λ e. few_same (connection_of client places) closed (λ c h. tt) few) few

few_run : (client : Client) (steps : List Step) (places : List Place) → AreThere steps places → Few (connection_of client places) → Few (connection_of client (after steps places))
few_run client [] places there few = few
few_run client (step ∷ more) places there few = few_run client more (after_one step places) there.1 (few_after client step places there.0 few)

pub few_for_all : (steps : List Step) (client : Client) (c : Connection) → AreThere steps no_connections → connection_of client (made steps) ≡ Some c → c.unanswered ≤ 32
few_for_all steps client c there still =
    subst Few still (few_run client steps no_connections there (subst Few (sym (tell.none_open client)) tt))
