-- What one event does, from what the calls give.
use Rattle.std.proofs.Common.{◌≡◌, ◌∙◌, ℕ, ◌<◌, ◌⊎◌, inl, inr, Bool, true, false, cond, List, [], ◌∷◌, ◌++◌, length, map, get_or, Option, None, Some, All, refl, sym, ap, subst}
use Rattle.std.specs.Prelude.{◌==◌, ◌&&◌, IfSome, Ok, Err, Result}
use Rattle.std.proofs.lemmas.Bool.{and_parts, false≢true}
use Rattle.arrivals.specs.declared.came.Came.{Came}
use Rattle.arrivals.specs.declared.came.Came.TheVariants as comes
use Rattle.arrivals.specs.declared.carrier.Carrier.{Carrier}
use Rattle.arrivals.specs.declared.carrier.Carrier.TheVariants.{Datagram, Stream}
use Rattle.arrivals.specs.declared.event.Event.{Event}
use Rattle.counters.specs.Counts.{counted, times, with_tally}
use Rattle.counters.specs.declared.counter.Counter.{Counter}
use Rattle.counters.specs.declared.counter.Counter.TheVariants as counters
use Rattle.dname.specs.Name.{Label}
use Rattle.dnswire.specs.Query.{IsReadAs}
use Rattle.dnswire.specs.declared.message.Message.{Message}
use Rattle.dnswire.specs.declared.question.Question.{Question}
use Rattle.dnswire.specs.declared.query_read.QueryRead.{QueryRead}
use Rattle.dnswire.specs.declared.query_read.QueryRead.TheVariants as reads
use Rattle.denial_records.specs.declared.batch.Batch.{Batch}
use Rattle.resolver.specs.declared.origin.Origin.{Origin}
use Rattle.reply_core.specs.Ask.{ask_octets}
use Rattle.waiting_table.specs.Waiting.{Slot, asks, client_of, clients_in, fits, may_ask_by_stream, same_carrier, slot_at}
use Rattle.waiting_table.specs.declared.place.Place.{Place}
use Rattle.waiting_table.specs.Steps.{given_up, place_for}
use Rattle.forwarding.specs.declared.sent.Sent.{Sent}
use Rattle.forwarding.specs.declared.want.Want.{Want}
use Rattle.forwarding.specs.declared.want.Want.TheVariants as wants
use Rattle.forwarding.specs.Done.{Done, Found, IsAnswer, IsAnswerDone, IsAnswered, IsDone, IsDoneBy, IsDoneOf, IsTakenBy, Storing, asking, asks_by_stream, bare_id, counter_of, failed, found_as, gives_up, is_bare_for, is_cut, proved, queried, query_done, IsStoringOf, refusal_of, relayed_with, relays, silent, storing, storing_in, stream_asking, tick_done, to_upstream, told_once, waits}
use Rattle.intake.specs.Batch.{Gives, IsFault}
use Rattle.intake.specs.declared.taken.Taken.{Taken}
use Rattle.intake.specs.declared.intake_fault.IntakeFault.{IntakeFault}
use Rattle.intake.specs.declared.intake_fault.IntakeFault.TheVariants.{OutOfMemory}
use Rattle.forwarding.specs.Passed.{stored_of}
use Rattle.forwarding.specs.Stored.{IsStored, IsStoredIn, IsStoring}
use Rattle.forwarding.specs.Turn.{IsKeptAt}
use Rattle.forwarding.specs.Lawful.{EachTurnIsLawful, IsAtWork, IsCalled, MaySendAll, Told, more_sent}
use Rattle.forwarding.proofs.LawfulLemmas.{may_front, may_rest, sent_both, sent_none}

module _ (passed : List (List Label)) (table : List Slot) (seen : List Batch) (event : Event) where
  -- ---- a query

  pub query_does : (ids : List ℕ) (client : ℕ) (carrier : Carrier) (read : QueryRead) (done : Done) → event.came ≡ comes.Query client carrier → IsReadAs event.octets.items read → done ≡ query_done passed table event.moment (get_or ids 0 0) seen client carrier read
      → IsDone passed table seen event ids wants.Nothing done
  query_does ids client carrier read done came reads is = subst (λ (c : Came). IsDoneBy passed table seen event.moment event.octets.items ids wants.Nothing c done) (sym came) (read, reads, refl, is)

  -- the cache has this reply
  pub answer_does : (client : ℕ) (carrier : Carrier) (question : Question) (octets : List ℕ) (origin : Origin) → event.came ≡ comes.Query client carrier → IsReadAs event.octets.items (reads.Query question) → proved carrier passed seen question event.moment.seconds ≡ Some (found_as octets origin)
      → IsDone passed table seen event [] wants.Nothing (told_once table client octets (counter_of origin))
  answer_does client carrier question octets origin came read is = query_does [] client carrier (reads.Query question) _ came read (sym (ap (queried table event.moment.millis 0 (client_of client carrier question)) is))

  -- it has none
  pub wait_does : (client : ℕ) (carrier : Carrier) (id : ℕ) (question : Question) → event.came ≡ comes.Query client carrier → IsReadAs event.octets.items (reads.Query question) → proved carrier passed seen question event.moment.seconds ≡ None
      → IsDone passed table seen event (id ∷ []) wants.Nothing (waits table event.moment.millis id (client_of client carrier question))
  wait_does client carrier id question came read is = query_does (id ∷ []) client carrier (reads.Query question) _ came read (sym (ap (queried table event.moment.millis id (client_of client carrier question)) is))

  -- ---- an answer

  module _ (slot : ℕ) (carrier : Carrier) (came : event.came ≡ comes.Answer slot carrier) where
    abbrev FitsAs : Message → Bool → Type 0
    FitsAs message b = fits carrier message.id message.name message.qtype message.qclass (slot_at table slot) ≡ b

    by_slot : (ids : List ℕ) (want : Want) (done : Done) → IsAnswered passed table slot carrier (get_or ids 0 0) event.moment.seconds event.octets.items want done → IsDone passed table seen event ids want done
    by_slot ids want done is = subst (λ (c : Came). IsDoneBy passed table seen event.moment event.octets.items ids want c done) (sym came) is

    -- it couldn't be read for want of memory
    pub unread_does : IsDone passed table seen event [] wants.ToRead (silent table counters.Unread)
    unread_does = by_slot [] wants.ToRead (silent table counters.Unread) refl

    bare_by : (b : Bool) (done : Done) → IsAnswer event.octets.items None → is_bare_for (slot_at table slot) carrier (bare_id event.octets.items) ≡ b → done ≡ cond b (gives_up table slot) (silent table counters.Ignored) → IsDone passed table seen event [] wants.Nothing done
    bare_by b done none is does =
        by_slot [] wants.Nothing done (None, none, (refl, does ∙ sym (ap (λ (t : Bool). cond t (gives_up table slot) (silent table counters.Ignored)) is)))

    -- it has no question, and is for the slot's
    pub bare_does : IsAnswer event.octets.items None → is_bare_for (slot_at table slot) carrier (bare_id event.octets.items) ≡ true → IsDone passed table seen event [] wants.Nothing (gives_up table slot)
    bare_does none is = bare_by true (gives_up table slot) none is refl

    pub not_bare_does : IsAnswer event.octets.items None → is_bare_for (slot_at table slot) carrier (bare_id event.octets.items) ≡ false → IsDone passed table seen event [] wants.Nothing (silent table counters.Ignored)
    not_bare_does none is = bare_by false (silent table counters.Ignored) none is refl

    of_message : (id : ℕ) (want : Want) (message : Message) (b : Bool) (done : Done) → FitsAs message b → IsDoneOf passed table slot carrier id event.moment.seconds event.octets.items want message b done
        → IsAnswerDone passed table slot carrier id event.moment.seconds event.octets.items want (Some message) done
    of_message id want message b done is does = subst (λ (f : Bool). IsDoneOf passed table slot carrier id event.moment.seconds event.octets.items want message f done) (sym is) does

    -- it isn't one to the slot's question
    pub unfit_does : (message : Message) → IsAnswer event.octets.items (Some message) → FitsAs message false → IsDone passed table seen event [] wants.Nothing (silent table counters.Ignored)
    unfit_does message answer is = by_slot [] wants.Nothing (silent table counters.Ignored) (Some message, answer, of_message 0 wants.Nothing message false (silent table counters.Ignored) is (refl, refl))

    taken_by : (id : ℕ) (want : Want) (message : Message) (b : Bool) (done : Done) → FitsAs message true → is_cut carrier message ≡ b → IsTakenBy passed table slot id event.moment.seconds event.octets.items want message b done
        → IsAnswerDone passed table slot carrier id event.moment.seconds event.octets.items want (Some message) done
    taken_by id want message b done is cut does =
        of_message id want message true done is (subst (λ (f : Bool). IsTakenBy passed table slot id event.moment.seconds event.octets.items want message f done) (sym cut) does)

    -- it is one, and was cut short
    pub cut_does : (message : Message) (id : ℕ) → IsAnswer event.octets.items (Some message) → FitsAs message true → is_cut carrier message ≡ true → IsDone passed table seen event (id ∷ []) wants.Nothing (asks_by_stream table slot id)
    cut_does message id answer is cut =
        by_slot (id ∷ []) wants.Nothing (asks_by_stream table slot id) (Some message, answer, taken_by id wants.Nothing message true (asks_by_stream table slot id) is cut (refl, refl))

    relay_by : (message : Message) (want : Want) (done : Done) → IsAnswer event.octets.items (Some message) → IsAnswerDone passed table slot carrier 0 event.moment.seconds event.octets.items want (Some message) done
        → (want ≡ wants.ToRead → ⊥) → IsDone passed table seen event [] want done
    relay_by message wants.Nothing done answer does read = by_slot [] wants.Nothing done (Some message, answer, does)
    relay_by message wants.ToRead done answer does read = absurd (read refl)
    relay_by message wants.ToStore done answer does read = by_slot [] wants.ToStore done (Some message, answer, does)

    never_read : (want : Want) (stored : Storing) → IsStoringOf passed event.octets.items event.moment.seconds want stored → want ≡ wants.ToRead → ⊥
    never_read want stored is read = subst (λ (w : Want). IsStoringOf passed event.octets.items event.moment.seconds w stored) read is

    -- it is one, came whole, and is stored, or memory is wanted for it
    pub relay_does : (message : Message) (counter : Counter) (stored : IsStoring passed event.octets.items event.moment.seconds seen counter) → IsAnswer event.octets.items (Some message) → FitsAs message true → is_cut carrier message ≡ false
        → IsDone passed table seen event [] stored.want (relays table slot message stored.storing)
    relay_does message counter stored answer is whole =
        let done = relays table slot message stored.storing in
        relay_by message stored.want done answer (taken_by 0 stored.want message false done is whole (stored.storing, stored.is, refl)) (never_read stored.want stored.storing stored.is)

  -- ---- a tick

  pub tick_does : (ids : List ℕ) → event.came ≡ comes.Tick → IsDone passed table seen event ids wants.Nothing (tick_done event.moment.millis ids table)
  tick_does ids came = subst (λ (c : Came). IsDoneBy passed table seen event.moment event.octets.items ids wants.Nothing c (tick_done event.moment.millis ids table)) (sym came) (refl, refl)

-- ---- a question that is asked by a stream

pub cut_by_datagram : (carrier : Carrier) (message : Message) → is_cut carrier message ≡ true → carrier ≡ Datagram
cut_by_datagram Datagram message cut = refl
cut_by_datagram Stream message cut = absurd (false≢true cut)

-- where the answer came by a datagram, it was asked by none yet
pub may_stream : (message : Message) (s : Slot) → fits Datagram message.id message.name message.qtype message.qclass s ≡ true → may_ask_by_stream s ≡ true
may_stream message None is = absurd (false≢true is)
may_stream message (Some w) is =
    let asked = and_parts (same_carrier w.by Datagram && (w.id == message.id)) (asks message.name message.qtype message.qclass w.asker.question) is in
    (and_parts (same_carrier w.by Datagram) (w.id == message.id) asked.0).0

pub stream_sends : (slot id : ℕ) (s : Slot) (question : Question) → may_ask_by_stream s ≡ true → IfSome s (λ w. question ≡ w.asker.question) → stream_asking slot id s ≡ to_upstream slot Stream (ask_octets question id) ∷ []
stream_sends slot id None question may same = absurd (false≢true may)
stream_sends slot id (Some w) question may same =
    ap (λ (b : Bool). cond b (to_upstream slot Stream (ask_octets w.asker.question id) ∷ []) []) may
    ∙ ap (λ (q : Question). to_upstream slot Stream (ask_octets q id) ∷ []) (sym same)

-- ---- an event that sends nothing

pub nothing_done : EachTurnIsLawful → (passed : List (List Label)) (history : List Batch) (table : List Slot) (counts counts' : List ℕ) (event : Event) (ids : List ℕ) (want : Want) (counter : Counter) (told : Option Told) → IsCalled passed history table counts event told
    → IsDone passed table history event ids want (silent table counter) → All (λ id. id < 65536) ids → counts' ≡ with_tally counts (times 1 counter) → IsAtWork passed history table counts' told
nothing_done each passed history table counts counts' event ids want counter told come does drawn counting =
    subst (λ (l : List ℕ). IsAtWork passed history table l told) (sym counting)
    ((each passed history table counts event ids want (silent table counter) false told told come does drawn refl).1 (sym (sent_none told)))

-- ---- what is counted

pub counted_with : (counts : List ℕ) (counter : Counter) {number other : ℕ} → number ≡ other → with_tally counts (times number counter) ≡ with_tally counts (times other counter)
counted_with counts counter same = ap (λ (n : ℕ). with_tally counts (times n counter)) same

pub relay_counted : (counts counts' : List ℕ) (table : List Slot) (slot : ℕ) (message : Message) (stored : Storing) (counter : Counter) → counter ≡ stored.counter → counts' ≡ with_tally counts (times 1 counter)
    → with_tally counts' (times (length (clients_in (slot_at table slot))) (relayed_with message.rcode)) ≡ counted (relays table slot message stored).tallies counts
relay_counted counts counts' table slot message stored counter same counting =
    ap (λ (l : List ℕ). with_tally l (times (length (clients_in (slot_at table slot))) (relayed_with message.rcode))) (counting ∙ ap (λ (c : Counter). with_tally counts (times 1 c)) same)

-- ---- a question that is asked

module _ (passed : List (List Label)) (history : List Batch) (told : Option Told) (table : List Slot) (now id number : ℕ) (carrier : Carrier) (question : Question) (place : Place) (is : place ≡ place_for question table) where
  abbrev due_at : Place → List Sent
  due_at p = map failed (given_up table p) ++ asking id question p

  due_is : due_at place ≡ (waits table now id (client_of number carrier question)).sends
  due_is = ap due_at is

  -- first those are told who wait where it is to wait
  pub give_up_may : MaySendAll passed history told (waits table now id (client_of number carrier question)).sends → MaySendAll passed history told (map failed (given_up table place))
  give_up_may may = may_front passed history told (map failed (given_up table place)) (asking id question place) (subst (MaySendAll passed history told) (sym due_is) may)

  -- then it is asked
  pub ask_may : (told' : Option Told) → MaySendAll passed history told (waits table now id (client_of number carrier question)).sends → told' ≡ more_sent told (map failed (given_up table place)) → MaySendAll passed history told' (asking id question place)
  ask_may told' may sent = may_rest passed history told told' (map failed (given_up table place)) (asking id question place) (subst (MaySendAll passed history told) (sym due_is) may) sent

  pub waits_sent : (told' told'' : Option Told) → told' ≡ more_sent told (map failed (given_up table place)) → told'' ≡ more_sent told' (asking id question place) → told'' ≡ more_sent told (waits table now id (client_of number carrier question)).sends
  waits_sent told' told'' sent asked =
      asked ∙ ap (λ (t : Option Told). more_sent t (asking id question place)) sent
      ∙ sent_both told (map failed (given_up table place)) (asking id question place) ∙ ap (more_sent told) due_is

-- ---- what is stored

-- what intake refuses
pub refused_in : (passed : List (List Label)) (octets : List ℕ) (now : ℕ) (history : List Batch) (fault : IntakeFault) (counter : Counter) → (fault ≡ OutOfMemory) ⊎ IsFault octets now fault → (fault ≡ OutOfMemory → ⊥) → counter ≡ refusal_of fault
    → IsStoredIn passed octets now history counter
refused_in passed octets now history fault counter (inl none) memory is = absurd (memory none)
refused_in passed octets now history fault counter (inr gives) memory is = record {
  given = Err fault;
  gives = gives;
  stored = record { counted = is; placed = false; kept = refl };
}

-- it was stored, or counted as refused, or there was nothing to store
pub as_stored : (passed : List (List Label)) (octets : List ℕ) (now : ℕ) (history : List Batch) (counter : Counter) → IsStoredIn passed octets now history counter → IsStoring passed octets now history counter
as_stored passed octets now history counter is = record {
  want = wants.Nothing;
  storing = storing_in passed is.given;
  is = (is.given, is.gives, refl);
  stored = is.stored;
}

-- memory was wanted for it
pub as_unstored : (passed : List (List Label)) (octets : List ℕ) (now : ℕ) (history : List Batch) → IsStoring passed octets now history counters.Unstored
as_unstored passed octets now history = record {
  want = wants.ToStore;
  storing = storing None counters.Unstored;
  is = refl;
  stored = record { counted = refl; placed = false; kept = refl };
}
