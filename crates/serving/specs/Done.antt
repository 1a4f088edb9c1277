-- What one datagram does, by the table of the queries that wait for the upstream, and the batches of one version.
use Rattle.std.specs.Prelude.{◌≡◌, ℕ, ◌+◌, ◌*◌, ◌%◌, true, List, [], length, Option, Some, None, Result, Ok, Err}
use Rattle.dnswire.specs.Message.{IsMessage}
use Rattle.dnswire.specs.Query.{IsReadAs}
use Rattle.dnswire.specs.declared.message.Message.{Message}
use Rattle.dnswire.specs.declared.question.Question.{Question}
use Rattle.dnswire.specs.declared.query_read.QueryRead.{QueryRead}
use Rattle.dnswire.specs.declared.query_read.QueryRead.TheVariants as reads
use Rattle.denial_records.specs.declared.batch.Batch.{Batch}
use Rattle.cache_meaning.specs.Held.{held_of}
use Rattle.dnswire.specs.Header.{is_answer}
use Rattle.intake.specs.Batch.{Gives}
use Rattle.intake.specs.declared.taken.Taken.{Taken}
use Rattle.intake.specs.declared.intake_fault.IntakeFault.{IntakeFault}
use Rattle.reply_core.specs.Answered.{reply_in}
use Rattle.reply_core.specs.Ask.{ask_octets}
use Rattle.reply_core.specs.Error.{error_octets, plain_octets}
use Rattle.reply_core.specs.Relay.{relay_octets}
use Rattle.reply_core.specs.declared.rcode.TheConstants.{FORMAT_ERROR, SERVER_FAILURE, NOT_IMPLEMENTED, BAD_VERSION}
use Rattle.serving.specs.Pending.{Entry, Slot, entry_for, entry_of, least_free, table_at, turn_at, with_entry, without_entry}
use Rattle.outside_core.specs.declared.datagram.Datagram.{Datagram}
use Rattle.outside_core.specs.declared.datagram.Peer.{Peer}
use Rattle.outside_core.specs.declared.datagram.Peer.TheVariants.{Client, Upstream}
use Rattle.serving.specs.declared.deed.Deed.{Deed}
use Rattle.serving.specs.declared.deed.Deed.TheVariants.{Quiet, Ignored, ToUpstream, ToClient}
use Rattle.serving.specs.declared.why.Why.{Why}
use Rattle.serving.specs.declared.why.Why.TheVariants.{Answered, Error, ServFail, Relayed}

-- the deed, the octets that are sent, the table after it, and the batch that is inserted before they are sent
pub record Done : Type 0 where
  pub deed : Deed
  pub octets : List ℕ
  pub table : List Slot
  pub batch : Option Batch

abbrev pub done_as : Deed → List ℕ → List Slot → Option Batch → Done
done_as deed octets table batch = record {
  deed = deed;
  octets = octets;
  table = table;
  batch = batch;
}

-- nothing is sent
abbrev pub silent : Deed → List Slot → Done
silent deed table = done_as deed [] table None

-- the octets go back to the client
abbrev pub replied : List Slot → ℕ → Why → List ℕ → Done
replied table client why octets = done_as (ToClient client why) octets table None

-- ---- a client's datagram

-- The question takes the least free slot, and is asked of the upstream with the ID 256 times the slot's turn, and the slot.
-- Where no slot is free the client is told of a failed server (RFC 1035, section 4.1.1)
abbrev pub asked : List Slot → ℕ → ℕ → Question → Option ℕ → Done
asked table now client question None =
    replied table client ServFail (plain_octets question SERVER_FAILURE)
asked table now client question (Some place) =
    done_as ToUpstream (ask_octets question (256 * turn_at table place + place))
    (with_entry table (Some place) (entry_of client question now)) None

-- a query to which the records of the version prove this reply, or none: then it is asked of the upstream, once late
-- queries have left the table
abbrev pub queried : List Slot → ℕ → ℕ → ℕ → Question → Option (List ℕ) → Done
queried table now version client question (Some reply) =
    replied table client (Answered version) reply
queried table now version client question None =
    let kept = table_at now table in asked kept now client question (least_free kept)

-- A datagram that gets no reply, a fault, whose reply is told at once, or a query. The RCODE is 4 for another opcode than that
-- of a standard query, 1 for what can't be read (RFC 1035, section 4.1.1), 16 for an OPT record of another version than 0
-- (RFC 6891, section 6.1.3)
abbrev pub client_done : List Slot → ℕ → List Batch → ℕ → QueryRead → Done
client_done table now seen client reads.Dropped = silent Quiet table
client_done table now seen client (reads.NotImp head) =
    replied table client Error (error_octets head NOT_IMPLEMENTED)
client_done table now seen client (reads.FormErr head) =
    replied table client Error (error_octets head FORMAT_ERROR)
client_done table now seen client (reads.BadVers question) =
    replied table client Error (plain_octets question BAD_VERSION)
client_done table now seen client (reads.Query question) =
    queried table now (length seen) client question (reply_in (held_of seen) question now)

-- ---- the upstream's datagram

-- the octets are this answer of a standard query, or none
abbrev pub IsAnswer : List ℕ → Option Message → Type 0
IsAnswer octets (Some message) = IsMessage octets message × (is_answer message.flags ≡ true)
IsAnswer octets None =
    (message : Message) → IsMessage octets message → is_answer message.flags ≡ true → ⊥

-- the query that the answer fits, by the ID and the question
abbrev pub awaited : List Slot → Message → Option Entry
awaited table message = entry_for table message.id message.name message.qtype message.qclass

-- what intake takes is inserted; what it refuses is passed over
abbrev pub batch_in : Result Taken IntakeFault → Option Batch
batch_in (Ok taken) = Some taken.batch
batch_in (Err fault) = None

-- the answer goes to the client, as the answer to its own question
abbrev pub relayed : List Slot → Message → Entry → Option Batch → Done
relayed table message entry batch =
    done_as (ToClient entry.client Relayed) (relay_octets entry.question message)
    (without_entry table (message.id % 256) (Some entry)) batch

-- an answer that no query waits for is ignored, and nothing of it is stored
abbrev pub IsDoneOf : List Slot → ℕ → List ℕ → Message → Option Entry → Done → Type 0
IsDoneOf table now octets message None done = done ≡ silent Ignored table
IsDoneOf table now octets message (Some entry) done =
    (given : Result Taken IntakeFault) × Gives octets now given
    × (done ≡ relayed table message entry (batch_in given))

-- so is what is no answer
abbrev pub IsUpstreamDone : List Slot → ℕ → List ℕ → Option Message → Done → Type 0
IsUpstreamDone table now octets None done = done ≡ silent Ignored table
IsUpstreamDone table now octets (Some message) done =
    IsDoneOf table now octets message (awaited table message) done

-- ---- any datagram

-- what octets of this peer do at the moment, where these batches make the version
abbrev pub IsDoneBy : List Slot → ℕ → List Batch → Peer → List ℕ → Done → Type 0
IsDoneBy table now seen (Client client) octets done =
    (read : QueryRead) × IsReadAs octets read × (done ≡ client_done table now seen client read)
IsDoneBy table now seen Upstream octets done =
    (answer : Option Message) × IsAnswer octets answer × IsUpstreamDone table now octets answer done

abbrev pub IsDone : List Slot → ℕ → List Batch → Datagram → Done → Type 0
IsDone table now seen datagram done =
    IsDoneBy table now seen datagram.peer datagram.octets done
