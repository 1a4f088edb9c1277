-- A round: datagrams came together, are done and are answered.
use Rattle.std.proofs.Common.{◌≡◌, ℕ, suc, ◌+◌, ◌<◌, ◌≤◌, inr, List, [], ◌∷◌, ◌++◌, length, map, take, drop, get_or, set, Option, refl, sym, ◌∙◌, ap, subst, arith, append_assoc, length-append}
use Rattle.std.specs.Prelude.{IfSome, OnErr, Result, Ok, Err}
use Rattle.std.proofs.lemmas.Grind.{flat_map-append}
use Rattle.std.proofs.lemmas.List.{append-nil, length-map, map-append, set-get_or, set_split, take_all, take_more, take_more_set}
use Rattle.denial_records.specs.declared.batch.Batch.{Batch}
use Rattle.cache_meaning.specs.Held.{Held}
use Rattle.cache_versions.specs.declared.state.State.{Ghosts}
use Rattle.cache_versions.specs.declared.seat.Seat.{Seat}
use Rattle.serving.specs.Pending.{Slot}
use Rattle.outside_core.specs.declared.datagram.Datagram.{Datagram}
use Rattle.outside_core.specs.declared.event.Event.{Event}
use Rattle.outside_core.specs.declared.event.Event.TheVariants.{Awaited, Found, Sent}
use Rattle.outside_core.specs.Event.{received_by, received_in}
use Rattle.serving.specs.declared.workspace.Answer.{Answer}
use Rattle.serving.specs.declared.serve_fault.ServeFault.TheVariants.{Link, OutOfMemory}
use Rattle.serving.specs.AtWork.{DoesSome, Halts, HasDone, IsAtWork, IsSentInPart, WorkerState, WorksOn, came_as, due_of, state_of}
use Rattle.serving.specs.Rounds.{Round, events_of, events_of_round, turns_in, turns_of_round}
use Rattle.serving.specs.Serves.{DoesServe, IsUnmoved}
use Rattle.serving.specs.Turn.{Turn, sent_by, sent_of}
use Rattle.serving.specs.Worker.{more_told}
use Rattle.serving.proofs.EventLemmas.{datagram_in, received_rounds, received_sent, told_more}
use Rattle.serving.proofs.TurnLemmas.{flat_push}
use Rattle.serving.proofs.WorkerLemmas.{none_more, one_more_done, served_by, stopped_before, unmoved_done}

pub when_err : {T E : Type 0} (r : Result T E) (P : Type 0) → P → OnErr r P
when_err (Ok x) P p = tt
when_err (Err e) P p = p

-- ---- what came

found_in : (turns : List Turn) → map (λ turn. Found turn.datagram) turns ≡ map Found (map datagram_in turns)
found_in [] = refl
found_in (turn ∷ later) = ap (λ l. Found turn.datagram ∷ l) (found_in later)

found_received : (datagrams : List Datagram) → received_in (map Found datagrams) ≡ datagrams
found_received [] = refl
found_received (datagram ∷ later) = ap (λ l. datagram ∷ l) (found_received later)

came_received : (came : List Datagram) → received_in (came_as came) ≡ came
came_received [] = refl
came_received (first ∷ others) = ap (λ l. first ∷ l) (found_received others)

came_one : (came : List Datagram) → length came ≡ 1 → came_as came ≡ map Awaited came
came_one [] one = refl
came_one (first ∷ []) one = refl
came_one (first ∷ second ∷ others) one = absurd (omega (arith, one))

-- the turns of what came make a round
round_for : (more : List Turn) (came due : List Datagram) → map datagram_in more ≡ came → sent_of more ≡ due → 1 ≤ length came
    → (round : Round) × (turns_of_round round ≡ more) × (events_of_round round ≡ came_as came ++ map Sent due)
round_for [] came due are sent some = absurd (omega (arith, ap length are, some))
round_for (first ∷ others) came due are sent some = (
  record { first = first; others = others },
  refl,
  (λ i. Awaited first.datagram ∷ found_in others i ++ map Sent (sent i)) ∙ ap (λ l. came_as l ++ map Sent due) are,
)

-- ---- what is due

abbrev due : Answer → List Datagram
due answer = sent_by answer.deed answer.octets

split_at : {X : Type 0} (xs : List X) (i : ℕ) (x : X) → i < length xs → x ≡ get_or xs i x → xs ≡ take i xs ++ x ∷ drop (suc i) xs
split_at xs i x within is = sym (set-get_or xs i x) ∙ (ap (set xs i) (sym is) ∙ set_split xs i x within)

taken_more : {X : Type 0} (xs : List X) (i : ℕ) (x : X) → i < length xs → x ≡ get_or xs i x → take (i + 1) xs ≡ take i xs ++ x ∷ []
taken_more xs i x within is = take_more xs i x within ∙ ap (λ y. take i xs ++ y ∷ []) (sym is)

pub part_sent : (answers : List Answer) (i : ℕ) (answer : Answer) (events events' : Option (List Event))
    → i < length answers → answer ≡ get_or answers i answer → 1 ≤ length (sent_by answer.deed answer.octets) → events' ≡ more_told events (map Sent (due_of (take i answers)))
    → IsSentInPart (due_of answers) events events'
part_sent answers i answer events events' within is some events_are = record {
  went = due_of (take i answers);
  rest = due_of (answer ∷ drop (suc i) answers);
  all = sym (flat_map-append due (take i answers) (answer ∷ drop (suc i) answers)) ∙ ap due_of (sym (split_at answers i answer within is));
  some = omega (arith, some, length-append (due answer) (due_of (drop (suc i) answers)));
  events_are = events_are;
}

-- what is told once so much was sent
told_then : (events0 events events1 events2 : Option (List Event)) (former : List Event) (came went : List Datagram)
    → events ≡ more_told events0 former → events1 ≡ more_told events (came_as came) → events2 ≡ more_told events1 (map Sent went)
    → events2 ≡ more_told events0 (former ++ (came_as came ++ map Sent went))
told_then events0 events events1 events2 former came went told came_is sent_is =
    sent_is ∙ ap (λ o. more_told o (map Sent went)) came_is ∙ told_more events (came_as came) (map Sent went)
    ∙ ap (λ o. more_told o (came_as came ++ map Sent went)) told ∙ told_more events0 former (came_as came ++ map Sent went)

module _ {g : Ghosts Held Batch (Unit {0})} where
  -- ---- all are done

  pub does_none : (moment : Option ℕ) (seat : Seat Held Batch (Unit {0}) g) (table : List Slot) → DoesSome moment seat seat table table [] []
  does_none moment seat table = λ before turns at. none_more moment before seat table turns at

  pub does_more : (i : ℕ) (moment : Option ℕ) (first now after : Seat Held Batch (Unit {0}) g) (table0 table table' : List Slot) (datagrams : List Datagram) (answers : List Answer) (datagram : Datagram) (answer : Answer) (at_moment : ℕ)
      → i < length datagrams → datagram ≡ get_or datagrams i datagram → i < length answers → IfSome moment (λ always. at_moment ≡ always)
      → DoesServe at_moment now after table datagram answer.deed answer.octets table'
      → DoesSome moment first now table0 table (take i datagrams) (due_of (take i answers))
      → DoesSome moment first after table0 table' (take (i + 1) datagrams) (due_of (take (i + 1) (set answers i answer)))
  does_more i moment first now after table0 table table' datagrams answers datagram answer at_moment within is room moment_is does so_far =
      let more : take i datagrams ++ datagram ∷ [] ≡ take (i + 1) datagrams = sym (taken_more datagrams i datagram within is) in
      let put : due_of (take i answers) ++ due answer ≡ due_of (take (i + 1) (set answers i answer)) = sym (ap due_of (take_more_set answers i answer room) ∙ flat_push due (take i answers) answer) in
      subst (λ f. f) (λ k. DoesSome moment first after table0 table' (more k) (put k))
      (λ before turns at.
      one_more_done moment before now after table table' turns (take i datagrams) (due_of (take i answers)) datagram at_moment answer.deed answer.octets moment_is does (so_far before turns at))

  pub does_all : (i : ℕ) (moment : Option ℕ) (first after : Seat Held Batch (Unit {0}) g) (table0 table : List Slot) (datagrams : List Datagram) (answers : List Answer)
      → i ≡ length datagrams → DoesSome moment first after table0 table (take i datagrams) (due_of (take i answers)) → DoesSome moment first after table0 table datagrams (due_of (take (length datagrams) answers))
  does_all i moment first after table0 table datagrams answers all does =
      let whole : take i datagrams ≡ datagrams = take_all i datagrams (omega (arith, all)) in
      let put : due_of (take i answers) ≡ due_of (take (length datagrams) answers) = ap (λ n. due_of (take n answers)) all in
      subst (λ f. f) (λ k. DoesSome moment first after table0 table (whole k) (put k)) does

  -- ---- the round

  -- behind whole rounds, after which the worker stood so, the datagrams came and were done, and this is due
  record IsInRound (n : ℕ) (moment : Option ℕ) (before state after : WorkerState g) (came due' : List Datagram) : Type 0 where
    rounds : List Round
    many : length (turns_in rounds) ≡ n + length came
    done : HasDone moment before.seat after.seat after.table (turns_in rounds)
    former : List Event
    told : state.events ≡ more_told before.events former
    whole : events_of rounds ≡ former ++ (came_as came ++ map Sent due')
    received : map datagram_in (turns_in rounds) ≡ received_in former ++ came

  in_round : (n : ℕ) (moment : Option ℕ) (before state after : WorkerState g) (came due' : List Datagram)
      → 1 ≤ length came → DoesSome moment state.seat after.seat state.table after.table came due' → IsAtWork n moment before state → IsInRound n moment before state after came due'
  in_round n moment before state after came due' some does at =
      let new = does before.seat (turns_in at.rounds) at.done in
      let round = round_for new.more came due' new.datagrams_are new.due_is some in
      let rounds = at.rounds ++ round.0 ∷ [] in
      let turns : turns_in rounds ≡ turns_in at.rounds ++ new.more = flat_push turns_of_round at.rounds round.0 ∙ ap (λ l. turns_in at.rounds ++ l) round.1 in
      let split : map datagram_in (turns_in rounds) ≡ map datagram_in (turns_in at.rounds) ++ came = ap (map datagram_in) turns ∙ map-append datagram_in (turns_in at.rounds) new.more ∙ ap (λ l. map datagram_in (turns_in at.rounds) ++ l) new.datagrams_are in
      record {
        rounds = rounds;
        many = sym (length-map (turns_in rounds) datagram_in) ∙ ap length split ∙ length-append (map datagram_in (turns_in at.rounds)) came ∙ ap (λ k. k + length came) (length-map (turns_in at.rounds) datagram_in ∙ at.many);
        done = subst (HasDone moment before.seat after.seat after.table) (sym turns) new.done;
        former = events_of at.rounds;
        told = at.events_are;
        whole = flat_push events_of_round at.rounds round.0 ∙ ap (λ l. events_of at.rounds ++ l) round.2;
        received = split ∙ ap (λ l. l ++ came) (sym (received_rounds at.rounds));
      }

  pub round_done : (count : ℕ) (moment : Option ℕ) (state state' : WorkerState g) (events : Option (List Event)) (came due' : List Datagram)
      → length came ≡ count → 1 ≤ count → events ≡ more_told state.events (came_as came) → DoesSome moment state.seat state'.seat state.table state'.table came due' → state'.events ≡ more_told events (map Sent due')
      → WorksOn count moment state state'
  round_done count moment state state' events came due' many some came_is does sent_is = λ n before at.
      let here = in_round n moment before state state' came due' (omega (arith, many, some)) does at in
      record {
        fresh = at.fresh;
        rounds = here.rounds;
        many = here.many ∙ ap (λ k. n + k) many;
        done = here.done;
        events_are = told_then before.events state.events events state'.events here.former came due' here.told came_is sent_is ∙ ap (more_told before.events) (sym here.whole);
      }

  -- ---- how it halts

  pub none_came : (most : ℕ) (moment : Option ℕ) (state : WorkerState g) (table : List Slot) (events : Option (List Event))
      → 1 ≤ most → events ≡ state.events → Halts most moment state (state_of state.seat table events) Link
  none_came most moment state table events some same = λ n datagrams before few at.
      stopped_before datagrams n moment before state events (omega (arith, some, few)) same at

  pub one_lost : (most : ℕ) (moment : Option ℕ) (state state' : WorkerState g) (came : List Datagram)
      → 1 ≤ most → length came ≡ 1 → state'.events ≡ more_told state.events (came_as came) → IsUnmoved state.seat state'.seat → Halts most moment state state' OutOfMemory
  one_lost most moment state state' came some one came_is unmoved = λ n datagrams before few at.
      let former = events_of at.rounds in
      served_by datagrams moment before (state_of state'.seat state.table state'.events) at.rounds came (former ++ map Awaited came) (Err OutOfMemory)
      (unmoved_done moment before.seat state.seat state'.seat state.table (turns_in at.rounds) unmoved at.done)
      (came_is ∙ ap (λ o. more_told o (came_as came)) at.events_are ∙ told_more before.events former (came_as came) ∙ ap (λ l. more_told before.events (former ++ l)) (came_one came one))
      (omega (arith, few, some, one, at.many), omega (arith, one), refl)

  pub not_all_sent : (most : ℕ) (moment : Option ℕ) (state state' : WorkerState g) (events : Option (List Event)) (came due' : List Datagram)
      → 1 ≤ length came → length came ≤ most → events ≡ more_told state.events (came_as came) → DoesSome moment state.seat state'.seat state.table state'.table came due' → IsSentInPart due' events state'.events
      → Halts most moment state state' Link
  not_all_sent most moment state state' events came due' some many came_is does part = λ n datagrams before few at.
      let here = in_round n moment before state state' came due' some does at in
      let went = here.former ++ (came_as came ++ map Sent part.went) in
      let all : went ++ map Sent part.rest ≡ events_of here.rounds =
      append_assoc here.former (came_as came ++ map Sent part.went) (map Sent part.rest)
      ∙ ap (λ l. here.former ++ l)
      (append_assoc (came_as came) (map Sent part.went) (map Sent part.rest) ∙ ap (λ l. came_as came ++ l) (sym (map-append Sent part.went part.rest) ∙ ap (map Sent) part.all))
      ∙ sym here.whole in
      let received : received_in went ≡ map datagram_in (turns_in here.rounds) =
      flat_map-append received_by here.former (came_as came ++ map Sent part.went)
      ∙ ap (λ l. received_in here.former ++ l)
      (flat_map-append received_by (came_as came) (map Sent part.went) ∙ (λ i. came_received came i ++ received_sent part.went i) ∙ append-nil came)
      ∙ sym here.received in
      served_by datagrams moment before state' here.rounds [] went (Err Link) here.done
      (told_then before.events state.events events state'.events here.former came part.went here.told came_is part.events_are) (
        omega (arith, few, many, here.many),
        refl,
        (map Sent part.rest, all),
        received,
        inr (omega (arith, part.some, ap length all, length-append went (map Sent part.rest), length-map part.rest Sent)),
      )
