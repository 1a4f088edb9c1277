-- What a server does of one stream, over its seat of the cache.
use Rattle.std.specs.Prelude.{◌≡◌, ℕ, ◌+◌, ◌<◌, ◌≤◌, List, [], ◌++◌, length, map, take, Option, IfSome, Result, Ok, Err}
use Rattle.std.specs.List.{All, flat_map}
use Rattle.denial_records.specs.declared.batch.Batch.{Batch}
use Rattle.outside_core.specs.Fault.{Rose}
use Rattle.outside_core.specs.Told.{append_told, prepend_told}
use Rattle.stream_front.specs.Split.{Begins, IsLeft, IsPart, TooSmall}
use Rattle.stream_front.specs.declared.read_fault.ReadFault.{ReadFault}
use Rattle.stream_front.specs.declared.read_fault.ReadFault.TheVariants as read
use Rattle.stream_server.specs.Turn.{IsAnswered}
use Rattle.stream_server.specs.declared.serving.TheConstants.{MOST_OCTETS}
use Rattle.stream_server.specs.declared.stream_fault.StreamFault.{StreamFault}
use Rattle.stream_server.specs.declared.stream_fault.StreamFault.TheVariants as fault

-- a message, the moment, the number of the version's batches, and the octets that go back
pub record Turn : Type 0 where
  pub message : List ℕ
  pub now : ℕ
  pub version : ℕ
  pub octets : List ℕ

-- The message is answered so by the first batches of the journal, so many. There are no fewer than these
pub record IsTurn (before : ℕ) (journal : List Batch) (turn : Turn) : Type 0 where
  pub since : before ≤ turn.version
  pub within : turn.version ≤ length journal
  pub answered : IsAnswered (take turn.version journal) turn.now turn.message turn.octets

-- the messages of the turns
abbrev pub asked_in : List Turn → List (List ℕ)
asked_in turns = map (λ turn. turn.message) turns

-- all that goes back
abbrev pub sent_of : List Turn → List ℕ
sent_of turns = flat_map (λ turn. turn.octets) turns

-- it is a prefix of the other, and not all of it
pub record IsCutShort (went all : List ℕ) : Type 0 where
  pub rest : List ℕ
  pub some : 1 ≤ length rest
  pub whole : went ++ rest ≡ all

-- why a stream isn't served to its end, where a front read nothing
abbrev pub stream_fault_of : ReadFault → StreamFault
stream_fault_of read.Source = fault.Source
stream_fault_of read.OutOfMemory = fault.OutOfMemory

-- How it ends: with these octets read, of which the turns have the first messages and leave the rest; with the octets that the
-- source has left, where it tells them; and with these octets written. It stops at the first octet beyond the most
abbrev pub Ends : List ℕ → List ℕ → Option (List ℕ) → List Turn → List ℕ → Result ℕ StreamFault → Type 0
Ends octets rest left turns went (Ok count) =
    (length rest ≡ count) × IsPart rest × IfSome left (λ after. after ≡ []) × (went ≡ sent_of turns)
    × (length octets ≤ MOST_OCTETS)
Ends octets rest left turns went (Err fault.Source) =
    IsPart rest × (went ≡ sent_of turns) × (length octets ≤ MOST_OCTETS)
Ends octets rest left turns went (Err fault.Sink) = IsCutShort went (sent_of turns)
Ends octets rest left turns went (Err (fault.TooSmall size)) = IsLeft rest (TooSmall size) × (went ≡ sent_of turns)
Ends octets rest left turns went (Err fault.TooLong) = IsPart rest × (MOST_OCTETS < length octets) × (went ≡ sent_of turns)
Ends octets rest left turns went (Err fault.OutOfMemory) =
    IsPart rest × (went ≡ sent_of turns) × (length octets ≤ MOST_OCTETS)

-- the batches that the seat had seen before and has seen after, and what source and sink tell before and after
pub record HasStreamed (moment : Option ℕ) (seen seen' : List Batch) (taken taken' left left' written written' : Option (List ℕ)) (result : Result ℕ StreamFault) : Type 0 where
  pub octets : List ℕ
  pub rest : List ℕ
  pub turns : List Turn
  pub stands : Begins octets (asked_in turns) rest
  pub few : length octets ≤ MOST_OCTETS + 1
  pub each : All (IsTurn (length seen) seen') turns
  -- at the one moment that the clock tells, if it tells one
  pub moments : IfSome moment (λ always. All (λ turn. turn.now ≡ always) turns)
  pub taken_are : taken' ≡ append_told taken octets
  pub left_are : left ≡ prepend_told octets left'
  pub went : List ℕ
  pub written_are : written' ≡ append_told written went
  pub ends : Ends octets rest left' turns went result

-- the count of faults of the source, or of the sink, rises where that failed, and else both stay
abbrev pub HasFaults : ℕ → ℕ → ℕ → ℕ → Result ℕ StreamFault → Type 0
HasFaults source source' sink sink' (Ok count) = (source' ≡ source) × (sink' ≡ sink)
HasFaults source source' sink sink' (Err fault.Source) = Rose source source' × (sink' ≡ sink)
HasFaults source source' sink sink' (Err fault.Sink) = (source' ≡ source) × Rose sink sink'
HasFaults source source' sink sink' (Err (fault.TooSmall size)) = (source' ≡ source) × (sink' ≡ sink)
HasFaults source source' sink sink' (Err fault.TooLong) = (source' ≡ source) × (sink' ≡ sink)
HasFaults source source' sink sink' (Err fault.OutOfMemory) = (source' ≡ source) × (sink' ≡ sink)
