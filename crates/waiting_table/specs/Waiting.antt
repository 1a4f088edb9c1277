-- The questions of one worker that wait for the upstream, with the clients that want their answers.
use Rattle.std.specs.Prelude.{◌==◌, ◌&&◌, if◌then◌else◌, ℕ, ◌+◌, ◌*◌, Bool, true, false, nat_le, nat_lt}
use Rattle.std.specs.Prelude.{List, [], ◌∷◌, ◌++◌, length, get_or, replicate, Option, Some, None}
use mathlib.Core.Bool.{beq}
use Rattle.dname.specs.Name.{Label}
use Rattle.dname.specs.Tests.{same_name}
use Rattle.dnswire.specs.declared.question.Question.{Question}
use Rattle.arrivals.specs.declared.carrier.Carrier.{Carrier}
use Rattle.arrivals.specs.declared.carrier.Carrier.TheVariants.{Datagram, Stream}
use Rattle.waiting_table.specs.declared.client.Client.{Client}
use Rattle.waiting_table.specs.declared.waiting_table.TheConstants.{SLOTS, CLIENTS, ASKINGS, PATIENCE, STEP}

abbrev pub client_of : ℕ → Carrier → Question → Client
client_of number carrier question =
    record { number = number; carrier = carrier; question = question }

-- A question that waits. Who asked it first, which is asked of the upstream; who has asked the same since; when it was asked of the
-- upstream first, and last by a datagram, in milliseconds; how often by a datagram; by what and with which ID last
pub record Waiting : Type 0 where
  pub asker : Client
  pub joined : List Client
  pub since : ℕ
  pub last : ℕ
  pub times : ℕ
  pub by : Carrier
  pub id : ℕ

-- a slot is free, or a question waits in it
abbrev pub Slot : Type 0
Slot = Option Waiting

-- no question waits
unfoldable pub empty_table : List Slot
empty_table = replicate SLOTS None

abbrev pub slot_at : List Slot → ℕ → Slot
slot_at table place = get_or table place None

-- all that wait for the answer
abbrev pub clients_of : Waiting → List Client
clients_of waiting = waiting.asker ∷ waiting.joined

abbrev pub clients_in : Slot → List Client
clients_in None = []
clients_in (Some waiting) = clients_of waiting

-- ---- what is asked

-- one answer serves both: name, type, class and CD are all that goes upstream of a question (RFC 1035, section 4.1.2; RFC 4035,
-- section 3.2.2)
abbrev pub same_asked : Question → Question → Bool
same_asked one other =
    same_name one.name other.name && (one.qtype == other.qtype) && (one.qclass == other.qclass)
    && beq one.cd other.cd

-- the question is of this name, type and class
abbrev pub asks : List Label → ℕ → ℕ → Question → Bool
asks name qtype qclass question =
    same_name question.name name && (question.qtype == qtype) && (question.qclass == qclass)

abbrev pub same_carrier : Carrier → Carrier → Bool
same_carrier Datagram Datagram = true
same_carrier Datagram Stream = false
same_carrier Stream Datagram = false
same_carrier Stream Stream = true

-- the slot's question was asked by this carrier and with this ID last
abbrev pub has_id : Carrier → ℕ → Slot → Bool
has_id carrier id None = false
has_id carrier id (Some waiting) = same_carrier waiting.by carrier && (waiting.id == id)

-- so it was, and is of this name, type and class (RFC 5452, section 9.1)
abbrev pub fits : Carrier → ℕ → List Label → ℕ → ℕ → Slot → Bool
fits carrier id name qtype qclass None = false
fits carrier id name qtype qclass (Some waiting) =
    same_carrier waiting.by carrier && (waiting.id == id)
    && asks name qtype qclass waiting.asker.question

-- ---- one slot

-- another client may join for the question
abbrev pub takes : Question → Slot → Bool
takes question None = false
takes question (Some waiting) =
    same_asked waiting.asker.question question && nat_lt (length (clients_of waiting)) CLIENTS

abbrev pub with_client : Client → Slot → Slot
with_client client None = None
with_client client (Some waiting) =
    Some (record waiting { joined = waiting.joined ++ client ∷ [] })

-- the client's question is asked for the first time
abbrev pub first_asked : ℕ → ℕ → Client → Waiting
first_asked now id client = record {
  asker = client;
  joined = [];
  since = now;
  last = now;
  times = 1;
  by = Datagram;
  id = id;
}

-- the slot's question was asked by datagrams alone
abbrev pub may_ask_by_stream : Slot → Bool
may_ask_by_stream None = false
may_ask_by_stream (Some waiting) = same_carrier waiting.by Datagram

-- it is asked by a stream, unless it was asked so before (RFC 2181, section 9)
abbrev pub asked_by_stream : ℕ → Slot → Slot
asked_by_stream id None = None
asked_by_stream id (Some waiting) =
    if same_carrier waiting.by Datagram then Some (record waiting { by = Stream; id = id })
    else Some waiting

-- it has waited for 4.5 seconds
abbrev pub is_late : ℕ → Waiting → Bool
is_late now waiting = nat_le (waiting.since + PATIENCE) now

-- it was asked by datagrams alone, and fewer than three times
abbrev pub may_ask_again : Waiting → Bool
may_ask_again waiting = same_carrier waiting.by Datagram && nat_lt waiting.times ASKINGS

-- and once a second ago, or for the second time two seconds ago
abbrev pub is_due : ℕ → Waiting → Bool
is_due now waiting =
    may_ask_again waiting && nat_le (waiting.last + STEP * waiting.times) now

-- it is asked once more, by a datagram
abbrev pub again : ℕ → ℕ → Waiting → Waiting
again now id waiting = record waiting { last = now; times = waiting.times + 1; id = id }
