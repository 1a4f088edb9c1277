-- A turn is a step of the table, or leaves it.
use Rattle.std.proofs.Common.{◌≡◌, ◌∙◌, ℕ, ◌<◌, ◌≤◌, ◌⊎◌, inl, inr, ⊎_elim, Bool, true, false, cond, List, [], ◌∷◌, ◌++◌, length, map, get_or, drop, suc, ◌+◌, Option, None, Some, refl, sym, ap, subst, arith}
use Rattle.std.specs.Prelude.{◌==◌, ◌&&◌, nat_lt}
use Rattle.std.specs.Bool.{Decides}
use Rattle.std.proofs.lemmas.Bool.{cases_lt, eqb-true, le-ltb, lt-ltb, ltb-true, or_cases, or_from, or_left, or_right}
use Rattle.std.proofs.lemmas.List.{append-nil, map-append}
use Rattle.std.proofs.lemmas.List.Concat.{flat_map-append}
use Rattle.std.proofs.lemmas.List.Sums.{sum_by-append, sum_by-cons}
use Rattle.arrivals.specs.declared.came.Came.{Came}
use Rattle.arrivals.specs.declared.came.Came.TheVariants.{Query, Answer, Tick}
use Rattle.arrivals.specs.declared.carrier.Carrier.{Carrier}
use Rattle.arrivals.specs.declared.carrier.Carrier.TheVariants.{Datagram, Stream}
use Rattle.arrivals.specs.declared.moment.Moment.{Moment}
use Rattle.byteorder.specs.Endian.{big_number}
use Rattle.counters.specs.declared.counter.Counter.{Counter}
use Rattle.counters.specs.declared.counter.Counter.TheVariants as counters
use Rattle.dname.specs.Name.{Label}
use Rattle.dnswire.specs.Header.{is_response}
use Rattle.dnswire.specs.Query.{HasQueryHeader, IsReadAs}
use Rattle.dnswire.specs.declared.message.Message.{Message}
use Rattle.dnswire.specs.declared.question.Question.{Question}
use Rattle.dnswire.specs.declared.query_read.QueryRead.{QueryRead}
use Rattle.dnswire.specs.declared.query_read.QueryRead.TheVariants as reads
use Rattle.denial_records.specs.declared.batch.Batch.{Batch}
use Rattle.reply_core.specs.Ask.{ask_octets}
use Rattle.reply_core.specs.Error.{error_octets, plain_octets}
use Rattle.reply_core.specs.declared.rcode.TheConstants.{FORMAT_ERROR, SERVER_FAILURE, NOT_IMPLEMENTED, BAD_VERSION}
use Rattle.waiting_table.specs.Waiting.{Slot, client_of, clients_in, clients_of, fits, is_due, is_late, may_ask_by_stream, same_carrier, slot_at}
use Rattle.waiting_table.specs.Laws.{is_new_at}
use Rattle.waiting_table.specs.Steps.{Asked, Answered, AskedByStream, Ticked, given_up, late_clients, late_in, place_for}
use Rattle.waiting_table.specs.declared.client.Client.{Client}
use Rattle.waiting_table.specs.declared.place.Place.{Place}
use Rattle.waiting_table.specs.declared.place.Place.TheVariants.{Joins, Fills, Replaces}
use Rattle.forwarding.specs.declared.sent.Sent.{Sent}
use Rattle.forwarding.specs.declared.want.Want.{Want}
use Rattle.forwarding.specs.declared.want.Want.TheVariants.{Nothing, ToRead, ToStore}
use Rattle.forwarding.specs.Done.{Done, Found, IsAnswerDone, IsAnswered, IsDoneBy, IsDoneOf, IsTakenBy, asking, asks_by_stream, bare_id, counter_of, failed, gives_up, is_bare_for, is_cut, proved, queried, query_done, silent, stream_asking, tick_done, tick_sends, ticks_from, to_client, to_upstream, told_once, trusted, waits}
use Rattle.forwarding.specs.ExtendedError.{told_relay}
use Rattle.forwarding.specs.Limit.{limit_for}
use Rattle.forwarding.specs.Laws.{EachTurnIsAStep, IsAStepBy, Stays, Steps, asker_by, asks_of, client_in, is_asking, is_dropped, numbers_of, told_in}

-- ---- what is dropped

pub dropped_is : (octets : List ℕ) → Decides (is_dropped octets) (IsReadAs octets reads.Dropped)
dropped_is octets = (λ yes. by (or_cases (nat_lt (length octets) 12) (is_response (big_number 2 (drop 2 octets))) yes), when)
  where
    by : (nat_lt (length octets) 12 ≡ true) ⊎ (is_response (big_number 2 (drop 2 octets)) ≡ true) → IsReadAs octets reads.Dropped
    by (inl h) = inl (ltb-true (length octets) 12 h)
    by (inr h) = ⊎_elim
        (λ (few : length octets < 12). inl few)
        (λ (whole : 12 ≤ length octets). inr (
          record {
            id = big_number 2 octets;
            flags = big_number 2 (drop 2 octets);
            questions = big_number 2 (drop 4 octets);
            answers = big_number 2 (drop 6 octets);
            authorities = big_number 2 (drop 8 octets);
            additionals = big_number 2 (drop 10 octets);
          },
          record { whole = whole; id = refl; flags = refl; questions = refl; answers = refl; authorities = refl; additionals = refl },
          h,
        ))
        (cases_lt (length octets) 12)

    when : IsReadAs octets reads.Dropped → is_dropped octets ≡ true
    when (inl h) = or_left (nat_lt (length octets) 12) (is_response (big_number 2 (drop 2 octets))) (lt-ltb (length octets) 12 h)
    when (inr there) = or_right (nat_lt (length octets) 12) (is_response (big_number 2 (drop 2 octets))) (sym (ap is_response there.1.flags) ∙ there.2)

kept_of : (octets : List ℕ) (header : _) (opcode : ℕ) → HasQueryHeader octets header opcode → is_dropped octets ≡ false
kept_of octets header opcode is =
    or_from (nat_lt (length octets) 12) (is_response (big_number 2 (drop 2 octets))) (le-ltb (length octets) 12 is.head.whole) (sym (ap is_response is.head.flags) ∙ is.query)

pub kept_query : (octets : List ℕ) (question : Question) → IsReadAs octets (reads.Query question) → is_dropped octets ≡ false
kept_query octets question is = kept_of octets is.0 0 is.1

asker_dropped : (octets : List ℕ) (client : ℕ) (carrier : Carrier) → is_dropped octets ≡ true → [] ≡ asker_by octets (Query client carrier)
asker_dropped octets client carrier is = sym (ap (λ (b : Bool). cond b [] (client ∷ [])) is)

pub asker_kept : (octets : List ℕ) (client : ℕ) (carrier : Carrier) → is_dropped octets ≡ false → client ∷ [] ≡ asker_by octets (Query client carrier)
asker_kept octets client carrier is = sym (ap (λ (b : Bool). cond b [] (client ∷ [])) is)

-- ---- who is told

pub told_both : (first more : List Sent) → told_in (first ++ more) ≡ told_in first ++ told_in more
told_both first more = flat_map-append (λ (one : Sent). client_in one.receiver) first more

-- each of the clients
told_each : (octets : Client → List ℕ) (clients : List Client) → told_in (map (λ (client : Client). to_client client.number (octets client)) clients) ≡ numbers_of clients
told_each octets [] = refl
told_each octets (client ∷ more) = ap (λ (l : List ℕ). client.number ∷ l) (told_each octets more)

-- no client is told where a question is asked
told_asking : (id : ℕ) (question : Question) (place : Place) → told_in (asking id question place) ≡ []
told_asking id question (Joins slot) = refl
told_asking id question (Fills slot) = refl
told_asking id question (Replaces slot) = refl

told_slot : (now slot id : ℕ) (s : Slot) → told_in (tick_sends now slot id s) ≡ numbers_of (late_in now s)
told_slot now slot id None = refl
told_slot now slot id (Some w) = by (is_late now w) (is_due now w)
  where
    by : (late due : Bool) → told_in (cond late (map failed (clients_of w)) (cond due (to_upstream slot Datagram (ask_octets w.asker.question id) ∷ []) [])) ≡ numbers_of (cond late (clients_of w) [])
    by true due = told_each (λ (client : Client). plain_octets client.question SERVER_FAILURE) (clients_of w)
    by false true = refl
    by false false = refl

told_ticks : (now slot : ℕ) (ids : List ℕ) (table : List Slot) → told_in (ticks_from now slot ids table) ≡ numbers_of (late_clients now table)
told_ticks now slot ids [] = refl
told_ticks now slot ids (s ∷ ss) =
    told_both (tick_sends now slot (get_or ids 0 0) s) (ticks_from now (suc slot) (drop 1 ids) ss)
    ∙ (λ i. told_slot now slot (get_or ids 0 0) s i ++ told_ticks now (suc slot) (drop 1 ids) ss i)
    ∙ sym (map-append (λ (client : Client). client.number) (late_in now s) (late_clients now ss))

-- no client is told where it is asked by a stream
told_streamed : (slot id : ℕ) (s : Slot) → told_in (stream_asking slot id s) ≡ []
told_streamed slot id None = refl
told_streamed slot id (Some w) = by (may_ask_by_stream (Some w))
  where
    by : (may : Bool) → told_in (cond may (to_upstream slot Stream (ask_octets w.asker.question id) ∷ []) []) ≡ []
    by true = refl
    by false = refl

-- ---- what is asked

-- an asking counts where the test holds
abbrev one_if : Bool → ℕ
one_if test = cond test 1 0

module _ (slot : ℕ) (carrier : Carrier) where
  abbrev once : Sent → ℕ
  once one = one_if (is_asking slot carrier one.receiver)

  asks_both : (first more : List Sent) → asks_of slot carrier (first ++ more) ≡ asks_of slot carrier first + asks_of slot carrier more
  asks_both first more = sum_by-append once first more

  asks_one : (one : Sent) → asks_of slot carrier (one ∷ []) ≡ once one
  asks_one one = let cons = sum_by-cons once one [] in omega (arith, cons)

  -- nothing is asked where clients are told
  asks_each : (octets : Client → List ℕ) (clients : List Client) → asks_of slot carrier (map (λ (client : Client). to_client client.number (octets client)) clients) ≡ 0
  asks_each octets [] = refl
  asks_each octets (client ∷ more) =
      let cons = sum_by-cons once (to_client client.number (octets client)) (map (λ (c : Client). to_client c.number (octets c)) more) in
      let rest = asks_each octets more in
      omega (arith, cons, rest)

  asks_failed : (clients : List Client) → asks_of slot carrier (map failed clients) ≡ 0
  asks_failed clients = asks_each (λ (client : Client). plain_octets client.question SERVER_FAILURE) clients

by_datagram : (here : Bool) → one_if (here && same_carrier Datagram Datagram) ≡ one_if here
by_datagram true = refl
by_datagram false = refl

-- a new question is asked by a datagram
asks_new : (slot id : ℕ) (question : Question) (place : Place) → asks_of slot Datagram (asking id question place) ≡ one_if (is_new_at slot place)
asks_new slot id question (Joins other) = refl
asks_new slot id question (Fills other) = asks_one slot Datagram (to_upstream other Datagram (ask_octets question id)) ∙ by_datagram (other == slot)
asks_new slot id question (Replaces other) = asks_one slot Datagram (to_upstream other Datagram (ask_octets question id)) ∙ by_datagram (other == slot)

not_by_stream : (here : Bool) → one_if (here && same_carrier Datagram Stream) ≡ 0
not_by_stream true = refl
not_by_stream false = refl

datagram_is_none : (slot other : ℕ) (octets : List ℕ) → asks_of slot Stream (to_upstream other Datagram octets ∷ []) ≡ 0
datagram_is_none slot other octets = asks_one slot Stream (to_upstream other Datagram octets) ∙ not_by_stream (other == slot)

-- and not by a stream
new_is_none : (slot id : ℕ) (question : Question) (place : Place) → asks_of slot Stream (asking id question place) ≡ 0
new_is_none slot id question (Joins other) = refl
new_is_none slot id question (Fills other) = datagram_is_none slot other (ask_octets question id)
new_is_none slot id question (Replaces other) = datagram_is_none slot other (ask_octets question id)

tick_is_none : (slot now other id : ℕ) (s : Slot) → asks_of slot Stream (tick_sends now other id s) ≡ 0
tick_is_none slot now other id None = refl
tick_is_none slot now other id (Some w) = by (is_late now w) (is_due now w)
  where
    by : (late due : Bool) → asks_of slot Stream (cond late (map failed (clients_of w)) (cond due (to_upstream other Datagram (ask_octets w.asker.question id) ∷ []) [])) ≡ 0
    by true due = asks_failed slot Stream (clients_of w)
    by false true = datagram_is_none slot other (ask_octets w.asker.question id)
    by false false = refl

ticks_are_none : (slot now other : ℕ) (ids : List ℕ) (table : List Slot) → asks_of slot Stream (ticks_from now other ids table) ≡ 0
ticks_are_none slot now other ids [] = refl
ticks_are_none slot now other ids (s ∷ ss) =
    let both = asks_both slot Stream (tick_sends now other (get_or ids 0 0) s) (ticks_from now (suc other) (drop 1 ids) ss) in
    let here = tick_is_none slot now other (get_or ids 0 0) s in
    let rest = ticks_are_none slot now (suc other) (drop 1 ids) ss in
    omega (arith, both, here, rest)

-- a slot's question is asked by a stream where it may
asks_streamed : (slot other id : ℕ) (s : Slot) → asks_of slot Stream (stream_asking other id s) ≡ one_if ((other == slot) && may_ask_by_stream s)
asks_streamed slot other id None = sym (not_by_stream (other == slot))
asks_streamed slot other id (Some w) = by (may_ask_by_stream (Some w))
  where
    by : (may : Bool) → asks_of slot Stream (cond may (to_upstream other Stream (ask_octets w.asker.question id) ∷ []) []) ≡ one_if ((other == slot) && may)
    by true = asks_one slot Stream (to_upstream other Stream (ask_octets w.asker.question id))
    by false = sym (not_by_stream (other == slot))

streamed_here : (slot other : ℕ) (table : List Slot) → one_if ((other == slot) && may_ask_by_stream (slot_at table other)) ≡ one_if ((other == slot) && may_ask_by_stream (slot_at table slot))
streamed_here slot other table = by (other == slot) refl
  where
    by : (here : Bool) → (other == slot) ≡ here → one_if (here && may_ask_by_stream (slot_at table other)) ≡ one_if (here && may_ask_by_stream (slot_at table slot))
    by true is = ap (λ (k : ℕ). one_if (may_ask_by_stream (slot_at table k))) (eqb-true other slot is)
    by false is = refl

-- ---- a query

module _ (table : List Slot) (now id : ℕ) (client : Client) where
  abbrev place : Place
  place = place_for client.question table

  abbrev given : List Client
  given = given_up table place

  waits_ask : (slot : ℕ) (carrier : Carrier) → asks_of slot carrier (waits table now id client).sends ≡ asks_of slot carrier (asking id client.question place)
  waits_ask slot carrier =
      let both = asks_both slot carrier (map failed given) (asking id client.question place) in
      let none = asks_failed slot carrier given in
      omega (arith, both, none)

  waits_is : Steps table (Asked now id client) (waits table now id client)
  waits_is = record {
    table_is = refl;
    told_are =
        told_both (map failed given) (asking id client.question place)
        ∙ (λ i. told_each (λ (other : Client). plain_octets other.question SERVER_FAILURE) given i ++ told_asking id client.question place i)
        ∙ append-nil (numbers_of given);
    streams_are = λ slot. waits_ask slot Stream ∙ new_is_none slot id client.question place;
  }

  waits_come : (slot : ℕ) → nat_lt 0 (asks_of slot Datagram (waits table now id client).sends) ≡ is_new_at slot place
  waits_come slot = ap (nat_lt 0) (waits_ask slot Datagram ∙ asks_new slot id client.question place) ∙ by (is_new_at slot place)
    where
      by : (new : Bool) → nat_lt 0 (one_if new) ≡ new
      by true = refl
      by false = refl

module _ (passed : List (List Label)) (table : List Slot) (moment : Moment) (octets ids : List ℕ) (seen : List Batch) (client : ℕ) (carrier : Carrier) where
  abbrev IsStep : Done → Type 0
  IsStep done = IsAStepBy table moment octets ids (Query client carrier) done

  told_at_once : (reply : List ℕ) (counter : Counter) → is_dropped octets ≡ false → IsStep (told_once table client reply counter)
  told_at_once reply counter kept = inl (record {
    table_is = refl;
    told_are = asker_kept octets client carrier kept;
    none_asked = λ slot by. asks_one slot by (to_client client reply);
  })

  question_is : (question : Question) (found : Option Found) → IsReadAs octets (reads.Query question) → is_dropped octets ≡ false → IsStep (queried table moment.millis (get_or ids 0 0) (client_of client carrier question) found)
  question_is question (Some found) read kept = told_at_once found.octets (counter_of found.origin) kept
  question_is question None read kept =
      let asker = client_of client carrier question in
      inr (record {
        question = question;
        read = read;
        steps = waits_is table moment.millis (get_or ids 0 0) asker;
        comes = waits_come table moment.millis (get_or ids 0 0) asker;
      })

  query_is : (read : QueryRead) → IsReadAs octets read → IsStep (query_done passed table moment (get_or ids 0 0) seen client carrier read)
  query_is reads.Dropped is = inl (record { table_is = refl; told_are = asker_dropped octets client carrier ((dropped_is octets).1 is); none_asked = λ slot by. refl })
  query_is (reads.NotImp head) is = told_at_once (error_octets head NOT_IMPLEMENTED) counters.NotImplemented (kept_of octets is.0 is.1 is.2)
  query_is (reads.FormErr head) is = told_at_once (error_octets head FORMAT_ERROR) counters.FormatError (kept_of octets is.0 0 is.1)
  query_is (reads.BadVers question) is = told_at_once (plain_octets question BAD_VERSION) counters.BadVersion (kept_of octets is.0 0 is.2)
  query_is (reads.Query question) is = question_is question (proved carrier passed seen question moment.seconds) is (kept_query octets question is)

-- ---- an answer

module _ (passed : List (List Label)) (table : List Slot) (slot : ℕ) (carrier : Carrier) (id now : ℕ) (octets : List ℕ) where
  abbrev IsTurnOf : Done → Type 0
  IsTurnOf done = Stays table [] done ⊎ (Steps table (Answered slot) done ⊎ Steps table (AskedByStream slot id) done)

  silent_is : (counter : Counter) (done : Done) → done ≡ silent table counter → IsTurnOf done
  silent_is counter done is = subst IsTurnOf (sym is) (inl (record { table_is = refl; told_are = refl; none_asked = λ other by. refl }))

  bare_is : (bare : Bool) → IsTurnOf (cond bare (gives_up table slot) (silent table counters.Ignored))
  bare_is true = inr (inl (record {
    table_is = refl;
    told_are = told_each (λ (client : Client). plain_octets client.question SERVER_FAILURE) (clients_in (slot_at table slot));
    streams_are = λ other. asks_failed other Stream (clients_in (slot_at table slot));
  }))
  bare_is false = silent_is counters.Ignored (silent table counters.Ignored) refl

  taken_is : (want : Want) (message : Message) (cut : Bool) (done : Done) → IsTakenBy passed table slot id now octets want message cut done → IsTurnOf done
  taken_is want message true done is = subst IsTurnOf (sym is.1) (inr (inr (record {
    table_is = refl;
    told_are = told_streamed slot id (slot_at table slot);
    streams_are = λ other. asks_streamed other slot id (slot_at table slot) ∙ streamed_here other slot table;
  })))
  taken_is want message false done is =
      let reply : Client → List ℕ = λ client. told_relay (limit_for client.carrier client.question.edns) client.question (trusted message) in
      subst IsTurnOf (sym is.2) (inr (inl (record {
        table_is = refl;
        told_are = told_each reply (clients_in (slot_at table slot));
        streams_are = λ other. asks_each other Stream reply (clients_in (slot_at table slot));
      })))

  message_is : (want : Want) (message : Message) (fit : Bool) (done : Done) → IsDoneOf passed table slot carrier id now octets want message fit done → IsTurnOf done
  message_is want message false done is = silent_is counters.Ignored done is.1
  message_is want message true done is = taken_is want message (is_cut carrier message) done is

  read_is : (want : Want) (answer : Option Message) (done : Done) → IsAnswerDone passed table slot carrier id now octets want answer done → IsTurnOf done
  read_is want None done is = subst IsTurnOf (sym is.1) (bare_is (is_bare_for (slot_at table slot) carrier (bare_id octets)))
  read_is want (Some message) done is = message_is want message (fits carrier message.id message.name message.qtype message.qclass (slot_at table slot)) done is

  answer_is : (want : Want) (done : Done) → IsAnswered passed table slot carrier id now octets want done → IsTurnOf done
  answer_is ToRead done is = silent_is counters.Unread done is
  answer_is Nothing done is = read_is Nothing is.0 done is.2
  answer_is ToStore done is = read_is ToStore is.0 done is.2

-- ---- any event

tick_is : (table : List Slot) (now : ℕ) (ids : List ℕ) → Steps table (Ticked now ids) (tick_done now ids table)
tick_is table now ids = record { table_is = refl; told_are = told_ticks now 0 ids table; streams_are = λ slot. ticks_are_none slot now 0 ids table }

step_by : (passed : List (List Label)) (table : List Slot) (seen : List Batch) (moment : Moment) (octets ids : List ℕ) (want : Want) (came : Came) (done : Done)
    → IsDoneBy passed table seen moment octets ids want came done → IsAStepBy table moment octets ids came done
step_by passed table seen moment octets ids want (Query client carrier) done is =
    subst (IsAStepBy table moment octets ids (Query client carrier)) (sym is.3) (query_is passed table moment octets ids seen client carrier is.0 is.1)
step_by passed table seen moment octets ids want (Answer slot carrier) done is = answer_is passed table slot carrier (get_or ids 0 0) moment.seconds octets want done is
step_by passed table seen moment octets ids want Tick done is = subst (Steps table (Ticked moment.millis ids)) (sym is.1) (tick_is table moment.millis ids)

pub each_turn_steps : EachTurnIsAStep
each_turn_steps passed table seen event ids want done is = step_by passed table seen event.moment event.octets.items ids want event.came done is
