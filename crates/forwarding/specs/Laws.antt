-- What holds of every run of turns: they are steps of the table of the questions that wait, or leave it.
use Rattle.std.specs.Prelude.{◌≡◌, ℕ, ◌+◌, ◌≤◌, ◌==◌, ◌&&◌, ◌||◌, ◌⊎◌, Bool, false, nat_lt, if◌then◌else◌, List, [], ◌∷◌, length, map, drop, get_or}
use Rattle.std.specs.Bool.{Decides}
use Rattle.std.specs.List.{All, count_by, flat_map}
use Rattle.arrivals.specs.declared.came.Came.{Came}
use Rattle.arrivals.specs.declared.came.Came.TheVariants.{Query, Answer, Tick}
use Rattle.arrivals.specs.declared.carrier.Carrier.{Carrier}
use Rattle.arrivals.specs.declared.carrier.Carrier.TheVariants.{Datagram, Stream}
use Rattle.arrivals.specs.declared.event.Event.{Event}
use Rattle.arrivals.specs.declared.moment.Moment.{Moment}
use Rattle.byteorder.specs.Endian.{big_number}
use Rattle.dname.specs.Name.{Label}
use Rattle.dnswire.specs.Header.{is_response}
use Rattle.dnswire.specs.Query.{IsReadAs}
use Rattle.dnswire.specs.declared.question.Question.{Question}
use Rattle.dnswire.specs.declared.query_read.QueryRead.TheVariants as reads
use Rattle.denial_records.specs.declared.batch.Batch.{Batch}
use Rattle.waiting_table.specs.Waiting.{Slot, client_of, empty_table, same_carrier}
use Rattle.waiting_table.specs.Steps.{Step, Asked, Answered, AskedByStream, Ticked, after_one, replies_of}
use Rattle.waiting_table.specs.Laws.{AreAskedOnce, IsInTime, comes_to, streams_in, waiting_for}
use Rattle.waiting_table.specs.declared.client.Client.{Client}
use Rattle.forwarding.specs.Done.{Done, IsDone}
use Rattle.forwarding.specs.Turn.{Turn, AreTurns, IsTurn, sends_of}
use Rattle.forwarding.specs.Lawful.{left_by}
use Rattle.forwarding.specs.declared.sent.Sent.{Sent}
use Rattle.forwarding.specs.declared.sent.Receiver.{Receiver}
use Rattle.forwarding.specs.declared.sent.Receiver.TheVariants.{ToClient, ToUpstream}
use Rattle.forwarding.specs.declared.want.Want.{Want}

-- ---- clients, by their numbers

abbrev pub numbers_of : List Client → List ℕ
numbers_of clients = map (λ client. client.number) clients

-- the client to which it goes, if it goes to one
abbrev pub client_in : Receiver → List ℕ
client_in (ToClient number) = number ∷ []
client_in (ToUpstream slot carrier) = []

-- the clients to which these go, in order
abbrev pub told_in : List Sent → List ℕ
told_in sends = flat_map (λ one. client_in one.receiver) sends

-- octets without a header, or a response, are dropped (RFC 1035, section 4.1.1)
abbrev pub is_dropped : List ℕ → Bool
is_dropped octets =
    nat_lt (length octets) 12 || is_response (big_number 2 (drop 2 octets))

-- the client that asks, unless what it sent is dropped
abbrev pub asker_by : List ℕ → Came → List ℕ
asker_by octets (Query client carrier) = if is_dropped octets then [] else client ∷ []
asker_by octets (Answer slot carrier) = []
asker_by octets Tick = []

-- the clients that ask in these turns, in order
abbrev pub askers_in : List Turn → List ℕ
askers_in turns = flat_map (λ turn. asker_by turn.event.octets.items turn.event.came) turns

-- how often the number is one of these
abbrev pub times_in : ℕ → List ℕ → ℕ
times_in number numbers = count_by (λ other. other == number) numbers

-- how many replies go to the client
abbrev pub replies_to : ℕ → List Sent → ℕ
replies_to number sends = times_in number (told_in sends)

-- how many queries of the client the turns are, but for what is dropped
abbrev pub queries_from : ℕ → List Turn → ℕ
queries_from number turns = times_in number (askers_in turns)

-- ---- askings of the upstream

-- it goes to the upstream for the slot, by the carrier
abbrev pub is_asking : ℕ → Carrier → Receiver → Bool
is_asking slot carrier (ToClient number) = false
is_asking slot carrier (ToUpstream other by) = (other == slot) && same_carrier by carrier

-- how often the slot's question is asked by the carrier
abbrev pub asks_of : ℕ → Carrier → List Sent → ℕ
asks_of slot carrier sends = count_by (λ one. is_asking slot carrier one.receiver) sends

-- a query's turn in which the slot's question is asked: the question is new in the slot
abbrev pub is_new_in : ℕ → Came → List Sent → Bool
is_new_in slot (Query client carrier) sends = nat_lt 0 (asks_of slot Datagram sends)
is_new_in slot (Answer other carrier) sends = false
is_new_in slot Tick sends = false

-- how often the slot's question was asked by a stream since it is in the slot, where it was so often before these turns
abbrev pub streams_since : ℕ → ℕ → List Turn → ℕ
streams_since slot before [] = before
streams_since slot before (turn ∷ later) =
    streams_since slot
    (if is_new_in slot turn.event.came turn.done.sends then 0
    else before + asks_of slot Stream turn.done.sends)
    later

-- ---- a turn

-- it leaves the table, tells these clients, and asks nothing
pub record Stays (table : List Slot) (told : List ℕ) (done : Done) : Type 0 where
  pub table_is : done.table ≡ table
  pub told_are : told_in done.sends ≡ told
  pub none_asked : (slot : ℕ) (carrier : Carrier) → asks_of slot carrier done.sends ≡ 0

-- it is this step of the table, tells those who are replied to in it, and asks by streams as it does
pub record Steps (table : List Slot) (step : Step) (done : Done) : Type 0 where
  pub table_is : done.table ≡ after_one step table
  pub told_are : told_in done.sends ≡ numbers_of (replies_of step table)
  pub streams_are : (slot : ℕ) → asks_of slot Stream done.sends ≡ streams_in slot step table

-- its octets ask this question, and it is the step of that
pub record Asks (table : List Slot) (moment : Moment) (octets ids : List ℕ) (client : ℕ) (carrier : Carrier) (done : Done) : Type 0 where
  pub question : Question
  pub read : IsReadAs octets (reads.Query question)
  pub steps : Steps table (Asked moment.millis (get_or ids 0 0) (client_of client carrier question)) done
  pub comes :
      (slot : ℕ) → nat_lt 0 (asks_of slot Datagram done.sends)
      ≡ comes_to slot (Asked moment.millis (get_or ids 0 0) (client_of client carrier question)) table

-- A query is dropped, told at once, or a step. So is an answer to the slot's question, or word that it is to be had by a stream; any
-- other is passed over. A tick is a step
abbrev pub IsAStepBy : List Slot → Moment → List ℕ → List ℕ → Came → Done → Type 0
IsAStepBy table moment octets ids (Query client carrier) done =
    Stays table (asker_by octets (Query client carrier)) done
    ⊎ Asks table moment octets ids client carrier done
IsAStepBy table moment octets ids (Answer slot carrier) done =
    Stays table [] done
    ⊎ (Steps table (Answered slot) done ⊎ Steps table (AskedByStream slot (get_or ids 0 0)) done)
IsAStepBy table moment octets ids Tick done = Steps table (Ticked moment.millis ids) done

-- ---- the laws

abbrev pub WhatIsDropped : Type 0
WhatIsDropped = (octets : List ℕ) → Decides (is_dropped octets) (IsReadAs octets reads.Dropped)

-- what an event does is a step of the table, or leaves it
abbrev pub EachTurnIsAStep : Type 0
EachTurnIsAStep =
    (passed : List (List Label)) (table : List Slot) (seen : List Batch) (event : Event)
    (ids : List ℕ) (want : Want) (done : Done)
    → IsDone passed table seen event ids want done
    → IsAStepBy table event.moment event.octets.items ids event.came done

-- each query of a client is replied to once, or waits
abbrev pub EachQueryIsRepliedToOnce : Type 0
EachQueryIsRepliedToOnce =
    (passed : List (List Label)) (history : List Batch) (turns : List Turn)
    → AreTurns passed history empty_table turns
    → (number : ℕ)
    → replies_to number (sends_of turns) + waiting_for number (left_by empty_table turns)
    ≡ queries_from number turns

-- equal questions are asked once, unless one has 16 clients
abbrev pub NoneIsAskedTwice : Type 0
NoneIsAskedTwice =
    (passed : List (List Label)) (history : List Batch) (turns : List Turn)
    → AreTurns passed history empty_table turns
    → AreAskedOnce (left_by empty_table turns)

-- between its coming and its going a question is asked by a stream once at most
abbrev pub EachIsAskedByStreamOnce : Type 0
EachIsAskedByStreamOnce =
    (passed : List (List Label)) (history : List Batch) (turns : List Turn)
    → AreTurns passed history empty_table turns
    → (slot : ℕ) → streams_since slot 0 turns ≤ 1

-- after a tick no question has waited for 4.5 seconds
abbrev pub NoneWaitsForLong : Type 0
NoneWaitsForLong =
    (passed : List (List Label)) (history : List Batch) (table : List Slot) (turn : Turn)
    → IsTurn passed history table turn → turn.event.came ≡ Tick
    → All (IsInTime turn.event.moment.millis) turn.done.table
