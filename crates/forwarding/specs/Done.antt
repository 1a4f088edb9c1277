-- What one event does, by the table of the questions that wait, and the batches of one version.
use Rattle.std.specs.Prelude.{◌≡◌, ℕ, suc, ◌==◌, ◌&&◌, ◌||◌, Bool, true, false, nat_le, if◌then◌else◌, List, [], ◌∷◌, ◌++◌, length, map, drop, filter, get_or, set, not, Option, option_map, Some, None, Result, Ok, Err}
use Rattle.arrivals.specs.declared.came.Came.{Came}
use Rattle.arrivals.specs.declared.came.Came.TheVariants.{Query, Answer, Tick}
use Rattle.arrivals.specs.declared.carrier.Carrier.{Carrier}
use Rattle.arrivals.specs.declared.carrier.Carrier.TheVariants.{Datagram, Stream}
use Rattle.arrivals.specs.declared.event.Event.{Event}
use Rattle.arrivals.specs.declared.moment.Moment.{Moment}
use Rattle.byteorder.specs.Endian.{big_number}
use Rattle.counters.specs.Counts.{Tally, times}
use Rattle.counters.specs.declared.counter.Counter.{Counter}
use Rattle.counters.specs.declared.counter.Counter.TheVariants as counters
use Rattle.dname.specs.Name.{Label}
use Rattle.dnswire.specs.Header.{is_answer, has_tc}
use Rattle.dnswire.specs.Message.{IsMessage}
use Rattle.dnswire.specs.Query.{IsReadAs}
use Rattle.dnswire.specs.declared.flags.TheConstants.{TC}
use Rattle.dnswire.specs.declared.message.Message.{Message}
use Rattle.dnswire.specs.declared.question.Question.{Question}
use Rattle.dnswire.specs.declared.query_read.QueryRead.{QueryRead}
use Rattle.dnswire.specs.declared.query_read.QueryRead.TheVariants as reads
use Rattle.denial_records.specs.declared.batch.Batch.{Batch}
use Rattle.cache_meaning.specs.Held.{held_of}
use Rattle.intake.specs.Batch.{Gives}
use Rattle.intake.specs.declared.taken.Taken.{Taken}
use Rattle.intake.specs.declared.intake_fault.IntakeFault.{IntakeFault}
use Rattle.intake.specs.declared.intake_fault.IntakeFault.TheVariants as faults
use Rattle.reply_core.specs.Ask.{ask_octets}
use Rattle.reply_core.specs.Error.{error_octets, plain_octets}
use Rattle.reply_core.specs.Reply.{flag}
use Rattle.reply_core.specs.declared.rcode.TheConstants.{NO_ERROR, FORMAT_ERROR, SERVER_FAILURE, NAME_ERROR, NOT_IMPLEMENTED, REFUSED, BAD_VERSION}
use Rattle.resolver.specs.Origin.{is_synthesized, origin_of}
use Rattle.resolver.specs.Walk.{Walk}
use Rattle.resolver.specs.WalkReply.{octets_within, walk_in}
use Rattle.resolver.specs.declared.origin.Origin.{Origin}
use Rattle.resolver.specs.declared.origin.Origin.TheVariants as origins
use Rattle.resolver.specs.declared.rule.Rule.TheVariants.{Both}
use Rattle.waiting_table.specs.Waiting.{Slot, asked_by_stream, client_of, clients_in, clients_of, fits, has_id, is_due, is_late, may_ask_by_stream, slot_at}
use Rattle.waiting_table.specs.Steps.{freed, given_up, is_due_in, is_late_in, late_clients, place_for, placed, ticked}
use Rattle.waiting_table.specs.declared.client.Client.{Client}
use Rattle.waiting_table.specs.declared.place.Place.{Place}
use Rattle.waiting_table.specs.declared.place.Place.TheVariants.{Joins, Fills, Replaces}
use Rattle.forwarding.specs.ExtendedError.{marked, told_relay}
use Rattle.forwarding.specs.Limit.{limit_for}
use Rattle.forwarding.specs.Passed.{is_passed, stored_of}
use Rattle.forwarding.specs.declared.sent.Sent.{Sent}
use Rattle.forwarding.specs.declared.sent.Receiver.TheVariants.{ToClient, ToUpstream}
use Rattle.forwarding.specs.declared.want.Want.{Want}
use Rattle.forwarding.specs.declared.want.Want.TheVariants.{Nothing, ToRead, ToStore}

-- ---- what is sent

abbrev pub to_client : ℕ → List ℕ → Sent
to_client number octets =
    record { receiver = ToClient number; octets = record { items = octets } }

-- over a new socket, which is the slot's from then on
abbrev pub to_upstream : ℕ → Carrier → List ℕ → Sent
to_upstream slot carrier octets =
    record { receiver = ToUpstream slot carrier; octets = record { items = octets } }

-- the client is told of a failed server (RFC 1035, section 4.1.1)
abbrev pub failed : Client → Sent
failed client = to_client client.number (plain_octets client.question SERVER_FAILURE)

-- An answer as it is relayed. AD speaks of what is in the answer and authority sections (RFC 4035, section 3.2.3): where RCODE is
-- neither 0 nor 3, of the flags TC alone is left
abbrev pub trusted : Message → Message
trusted message =
    if (message.rcode == NO_ERROR) || (message.rcode == NAME_ERROR) then message
    else record message { flags = flag (has_tc message.flags) TC }

-- the client gets the message as the answer to its own question, with the upstream's extended errors, within what it takes
abbrev pub answered : Message → Client → Sent
answered message client =
    let limit = limit_for client.carrier client.question.edns in
    to_client client.number (told_relay limit client.question message)

-- ---- what is done

-- the table after it, what is sent, in order, the batch that is placed before anything is sent, and what is counted
pub record Done : Type 0 where
  pub table : List Slot
  pub sends : List Sent
  pub batch : Option Batch
  pub tallies : List Tally

abbrev pub done_as : List Slot → List Sent → Option Batch → List Tally → Done
done_as table sends batch tallies = record { table = table; sends = sends; batch = batch; tallies = tallies }

-- nothing but the count
abbrev pub silent : List Slot → Counter → Done
silent table counter = done_as table [] None (times 1 counter ∷ [])

-- one reply to one client, which is counted so
abbrev pub told_once : List Slot → ℕ → List ℕ → Counter → Done
told_once table number octets counter =
    done_as table (to_client number octets ∷ []) None (times 1 counter ∷ [])

-- ---- a query

-- the question is asked by a datagram with the ID, unless its client joins
abbrev pub asking : ℕ → Question → Place → List Sent
asking id question (Joins slot) = []
asking id question (Fills slot) = to_upstream slot Datagram (ask_octets question id) ∷ []
asking id question (Replaces slot) = to_upstream slot Datagram (ask_octets question id) ∷ []

abbrev pub waiting_tallies : List Slot → Place → List Tally
waiting_tallies table (Joins slot) = times 1 counters.Joined ∷ []
waiting_tallies table (Fills slot) = times 1 counters.Asked ∷ []
waiting_tallies table (Replaces slot) =
    times (length (given_up table (Replaces slot))) counters.Full ∷ times 1 counters.Asked ∷ []

-- the client waits for the answer; those of a question that is given up for it are told of a failed server
abbrev pub waits : List Slot → ℕ → ℕ → Client → Done
waits table now id client =
    let place = place_for client.question table in
    done_as (placed now id client table place)
    (map failed (given_up table place) ++ asking id client.question place) None
    (waiting_tallies table place)

-- a reply from held records, and from what it is made
pub record Found : Type 0 where
  pub octets : List ℕ
  pub origin : Origin

abbrev pub found_as : List ℕ → Origin → Found
found_as octets origin = record { octets = octets; origin = origin }

-- what a query is counted as that the cache answers
abbrev pub counter_of : Origin → Counter
counter_of origins.Set = counters.Set
counter_of origins.NoData = counters.NoData
counter_of origins.NameError = counters.NameError
counter_of origins.Wildcard = counters.Wildcard
counter_of (origins.Alias synthesized) = counters.Alias
counter_of (origins.Redirection synthesized) = counters.Redirection

-- a reply goes to the client, or it waits
abbrev pub queried : List Slot → ℕ → ℕ → Client → Option Found → Done
queried table now id client (Some found) =
    told_once table client.number found.octets (counter_of found.origin)
queried table now id client None = waits table now id client

-- the reply of a walk at a moment within the limit, marked as synthesized where a denial or a wildcard has part in it and the mark
-- fits
abbrev pub shown : ℕ → Question → ℕ → Walk → Found
shown limit question now walk =
    let reply = octets_within limit question now walk in
    found_as (marked limit question (is_synthesized (origin_of walk)) reply) (origin_of walk)

-- what the records of the version prove of the question, by aliases and redirections
abbrev pub found_within : ℕ → List Batch → Question → ℕ → Option Found
found_within limit seen question now =
    option_map (shown limit question now) (walk_in Both (held_of seen) question now)

-- within what a client by the carrier takes
abbrev pub found : Carrier → List Batch → Question → ℕ → Option Found
found carrier seen question now =
    found_within (limit_for carrier question.edns) seen question now

-- the same of a question at or below no passed name
abbrev pub proved : Carrier → List (List Label) → List Batch → Question → ℕ → Option Found
proved carrier passed seen question now =
    if is_passed passed question.name then None else found carrier seen question now

-- A message that gets no reply, a fault, whose reply is told at once, or a query. The RCODE is 4 for another opcode than that
-- of a standard query, 1 for what can't be read (RFC 1035, section 4.1.1), 16 for an OPT record of another version than 0
-- (RFC 6891, section 6.1.3)
abbrev pub query_done : List (List Label) → List Slot → Moment → ℕ → List Batch → ℕ → Carrier → QueryRead → Done
query_done passed table moment id seen number carrier reads.Dropped =
    silent table counters.Dropped
query_done passed table moment id seen number carrier (reads.NotImp head) =
    told_once table number (error_octets head NOT_IMPLEMENTED) counters.NotImplemented
query_done passed table moment id seen number carrier (reads.FormErr head) =
    told_once table number (error_octets head FORMAT_ERROR) counters.FormatError
query_done passed table moment id seen number carrier (reads.BadVers question) =
    told_once table number (plain_octets question BAD_VERSION) counters.BadVersion
query_done passed table moment id seen number carrier (reads.Query question) =
    queried table moment.millis id (client_of number carrier question)
    (proved carrier passed seen question moment.seconds)

-- ---- an answer

-- the octets are this answer of a standard query, or none
abbrev pub IsAnswer : List ℕ → Option Message → Type 0
IsAnswer octets (Some message) = IsMessage octets message × (is_answer message.flags ≡ true)
IsAnswer octets None =
    (message : Message) → IsMessage octets message → is_answer message.flags ≡ true → ⊥

-- the ID of a header of an answer that has no question, as that of a server which couldn't read the query (RFC 1035, section 4.1.1)
abbrev pub bare_id : List ℕ → Option ℕ
bare_id octets =
    if nat_le 12 (length octets) && is_answer (big_number 2 (drop 2 octets))
    && (big_number 2 (drop 4 octets) == 0)
    then Some (big_number 2 octets) else None

-- the slot's question was asked with it last, by the carrier
abbrev pub is_bare_for : Slot → Carrier → Option ℕ → Bool
is_bare_for slot carrier None = false
is_bare_for slot carrier (Some id) = has_id carrier id slot

-- nobody waits any longer for the slot's question: each client is told of a failed server
abbrev pub gives_up : List Slot → ℕ → Done
gives_up table slot =
    let clients = clients_in (slot_at table slot) in
    done_as (freed slot table) (map failed clients) None (times (length clients) counters.Unreadable ∷ [])

abbrev pub relayed_with : ℕ → Counter
relayed_with rcode =
    if rcode == NO_ERROR then counters.RelayedNoError
    else (if rcode == NAME_ERROR then counters.RelayedNameError
    else (if rcode == SERVER_FAILURE then counters.RelayedServerFailure
    else (if rcode == REFUSED then counters.RelayedRefused else counters.RelayedOther)))

-- what is stored of an answer, and what it is counted as
pub record Storing : Type 0 where
  pub batch : Option Batch
  pub counter : Counter

abbrev pub storing : Option Batch → Counter → Storing
storing batch counter = record { batch = batch; counter = counter }

-- each client gets the answer
abbrev pub relays : List Slot → ℕ → Message → Storing → Done
relays table slot message stored =
    let clients = clients_in (slot_at table slot) in
    done_as (freed slot table) (map (answered (trusted message)) clients) stored.batch
    (times 1 stored.counter ∷ times (length clients) (relayed_with message.rcode) ∷ [])

-- why intake refuses an answer
abbrev pub refusal_of : IntakeFault → Counter
refusal_of (faults.Malformed fault) = counters.Malformed
refusal_of faults.NotResponse = counters.NotResponse
refusal_of faults.Truncated = counters.Truncated
refusal_of (faults.Rcode rcode) = counters.OtherRcode
refusal_of faults.NotAuthentic = counters.NotAuthentic
refusal_of (faults.Nothing skipped) = counters.NothingToStore
refusal_of faults.OutOfMemory = counters.Unstored

abbrev pub stored_as : Option Batch → Storing
stored_as None = storing None counters.Passed
stored_as (Some batch) = storing (Some batch) counters.Stored

-- what intake takes of an answer is placed, but for what stands at passed names or leads there; what it refuses is passed over
abbrev pub storing_in : List (List Label) → Result Taken IntakeFault → Storing
storing_in passed (Ok taken) = stored_as (stored_of passed taken.batch)
storing_in passed (Err fault) = storing None (refusal_of fault)

-- what is stored of the octets, unless memory is wanted for it
abbrev pub IsStoringOf : List (List Label) → List ℕ → ℕ → Want → Storing → Type 0
IsStoringOf passed octets now Nothing stored =
    (given : Result Taken IntakeFault) × Gives octets now given × (stored ≡ storing_in passed given)
IsStoringOf passed octets now ToRead stored = ⊥
IsStoringOf passed octets now ToStore stored = stored ≡ storing None counters.Unstored

-- an answer that was cut short to go into a datagram (RFC 1035, section 4.1.1)
abbrev pub is_cut : Carrier → Message → Bool
is_cut Datagram message = has_tc message.flags
is_cut Stream message = false

-- the slot's question as it is asked by a stream, unless it was asked so before
abbrev pub stream_asking : ℕ → ℕ → Slot → List Sent
stream_asking slot id None = []
stream_asking slot id (Some waiting) =
    if may_ask_by_stream (Some waiting)
    then to_upstream slot Stream (ask_octets waiting.asker.question id) ∷ [] else []

-- Nothing is stored, and nobody is told: what the stream brings is the answer (RFC 2181, section 9; RFC 7766, section 5)
abbrev pub asks_by_stream : List Slot → ℕ → ℕ → Done
asks_by_stream table slot id =
    done_as (set table slot (asked_by_stream id (slot_at table slot)))
    (stream_asking slot id (slot_at table slot)) None (times 1 counters.AskedByStream ∷ [])

-- an answer to the slot's question: where it was cut short the question is asked by a stream, with the ID, and else it is relayed
abbrev pub IsTakenBy : List (List Label) → List Slot → ℕ → ℕ → ℕ → List ℕ → Want → Message → Bool → Done → Type 0
IsTakenBy passed table slot id now octets want message true done =
    (want ≡ Nothing) × (done ≡ asks_by_stream table slot id)
IsTakenBy passed table slot id now octets want message false done =
    (stored : Storing) × IsStoringOf passed octets now want stored
    × (done ≡ relays table slot message stored)

-- it is taken where it is one to the slot's question (RFC 5452, section 9.1); any other is passed over
abbrev pub IsDoneOf : List (List Label) → List Slot → ℕ → Carrier → ℕ → ℕ → List ℕ → Want → Message → Bool → Done → Type 0
IsDoneOf passed table slot carrier id now octets want message false done =
    (want ≡ Nothing) × (done ≡ silent table counters.Ignored)
IsDoneOf passed table slot carrier id now octets want message true done =
    IsTakenBy passed table slot id now octets want message (is_cut carrier message) done

abbrev pub IsAnswerDone : List (List Label) → List Slot → ℕ → Carrier → ℕ → ℕ → List ℕ → Want → Option Message → Done → Type 0
IsAnswerDone passed table slot carrier id now octets want None done =
    (want ≡ Nothing)
    × (done ≡ (if is_bare_for (slot_at table slot) carrier (bare_id octets) then gives_up table slot
    else silent table counters.Ignored))
IsAnswerDone passed table slot carrier id now octets want (Some message) done =
    IsDoneOf passed table slot carrier id now octets want message
    (fits carrier message.id message.name message.qtype message.qclass (slot_at table slot)) done

-- What an answer does that came by the carrier, where this ID is drawn. Where memory is wanted to read it, it is passed over
abbrev pub IsAnswered : List (List Label) → List Slot → ℕ → Carrier → ℕ → ℕ → List ℕ → Want → Done → Type 0
IsAnswered passed table slot carrier id now octets ToRead done =
    done ≡ silent table counters.Unread
IsAnswered passed table slot carrier id now octets Nothing done =
    (answer : Option Message) × IsAnswer octets answer
    × IsAnswerDone passed table slot carrier id now octets Nothing answer done
IsAnswered passed table slot carrier id now octets ToStore done =
    (answer : Option Message) × IsAnswer octets answer
    × IsAnswerDone passed table slot carrier id now octets ToStore answer done

-- ---- a tick

-- the clients of a late question are told of a failed server; one that is due is asked again by a datagram, with the ID
abbrev pub tick_sends : ℕ → ℕ → ℕ → Slot → List Sent
tick_sends now slot id None = []
tick_sends now slot id (Some waiting) =
    if is_late now waiting then map failed (clients_of waiting)
    else (if is_due now waiting
    then to_upstream slot Datagram (ask_octets waiting.asker.question id) ∷ [] else [])

-- slot by slot from that number on, with the IDs in order
abbrev pub ticks_from : ℕ → ℕ → List ℕ → List Slot → List Sent
ticks_from now slot ids [] = []
ticks_from now slot ids (first ∷ more) =
    tick_sends now slot (get_or ids 0 0) first ++ ticks_from now (suc slot) (drop 1 ids) more

-- how many questions are asked again
abbrev pub due_in : ℕ → List Slot → ℕ
due_in now table = length (filter (λ slot. not (is_late_in now slot) && is_due_in now slot) table)

abbrev pub tick_done : ℕ → List ℕ → List Slot → Done
tick_done now ids table =
    done_as (ticked now ids table) (ticks_from now 0 ids table) None
    (times (length (late_clients now table)) counters.Late ∷ times (due_in now table) counters.AskedAgain ∷ [])

-- ---- any event

-- what an event does, where these batches make the version, these IDs are drawn, and memory is wanted for this
abbrev pub IsDoneBy : List (List Label) → List Slot → List Batch → Moment → List ℕ → List ℕ → Want → Came → Done → Type 0
IsDoneBy passed table seen moment octets ids want (Query client carrier) done =
    (read : QueryRead) × IsReadAs octets read × (want ≡ Nothing)
    × (done ≡ query_done passed table moment (get_or ids 0 0) seen client carrier read)
IsDoneBy passed table seen moment octets ids want (Answer slot carrier) done =
    IsAnswered passed table slot carrier (get_or ids 0 0) moment.seconds octets want done
IsDoneBy passed table seen moment octets ids want Tick done =
    (want ≡ Nothing) × (done ≡ tick_done moment.millis ids table)

abbrev pub IsDone : List (List Label) → List Slot → List Batch → Event → List ℕ → Want → Done → Type 0
IsDone passed table seen event ids want done =
    IsDoneBy passed table seen event.moment event.octets.items ids want event.came done
