-- What connections got that were served from the cache.
use Rattle.std.specs.Prelude.{◌≡◌, ℕ, ◌<◌, ◌⊎◌, List, [], ◌++◌, length, Option, Some, IfSome}
use Rattle.std.specs.List.{All}
use mathlib.Core.List.{IsPrefix}
use Rattle.denial_records.specs.declared.batch.Batch.{Batch}
use Rattle.outside_core.specs.Fault.{Rose}
use Rattle.gateway.specs.Connection.{Connection}
use Rattle.stream_front.specs.Split.{Begins, IsLeft, IsPart, TooSmall}
use Rattle.stream_server.specs.Stream.{Turn, IsTurn, asked_in, sent_of}
use Rattle.stream_server.specs.declared.serving.TheConstants.{MOST_OCTETS}
use Rattle.stream_server.specs.declared.connect_fault.ConnectFault.{ConnectFault}
use Rattle.stream_server.specs.declared.connect_fault.ConnectFault.TheVariants as fault

-- where the gateway tells what came back, it told it before, and these came back since
abbrev pub CameBack : Option (List Connection) → Option (List Connection) → (List Connection → Type 0) → Type 0
CameBack told told' Are = IfSome told' (λ all.
    (before connections : List Connection) × (told ≡ Some before) × (all ≡ before ++ connections) × Are connections)

-- no call of its source or its sink has failed
abbrev pub Unfailed : Connection → Type 0
Unfailed connection = (connection.source_faults ≡ 0) × (connection.sink_faults ≡ 0)

-- Nothing is left in it, unless such a length stands in the stream, or the stream is too long
abbrev pub IsReadOut : Connection → List ℕ → Type 0
IsReadOut connection rest =
    ((connection.left ≡ []) × IsPart rest)
    ⊎ ((size : ℕ) × IsLeft rest (TooSmall size))
    ⊎ (IsPart rest × (MOST_OCTETS < length connection.taken))

-- Each message that was read whole was answered, in order, and nothing else was written; where a call has failed, what was
-- written is a prefix of the answers to the first messages
pub record IsServed (moment : Option ℕ) (before : ℕ) (seen : List Batch) (connection : Connection) : Type 0 where
  pub turns : List Turn
  pub rest : List ℕ
  pub stands : Begins connection.taken (asked_in turns) rest
  pub each : All (IsTurn before seen) turns
  pub moments : IfSome moment (λ always. All (λ turn. turn.now ≡ always) turns)
  pub part : IsPrefix connection.written (sent_of turns)
  pub whole : Unfailed connection → (connection.written ≡ sent_of turns) × IsReadOut connection rest

-- so many were served
pub record AreServed (count : ℕ) (moment : Option ℕ) (before : ℕ) (seen : List Batch) (connections : List Connection) : Type 0 where
  pub many : length connections ≡ count
  pub each : All (IsServed moment before seen) connections

-- all of them, and no call has failed
abbrev pub AreAllServed : ℕ → Option ℕ → ℕ → List Batch → List Connection → Type 0
AreAllServed count moment before seen connections =
    AreServed count moment before seen connections × All Unfailed connections

-- Why it ended early: the gateway's count of faults rose, and either as many came back as were to be served, or a call of
-- `listen` or `accept` has failed; after want of memory nothing is said of the last
abbrev pub EndsEarly : ℕ → Option ℕ → ℕ → List Batch → Option (List Connection) → Option (List Connection) → ℕ → ℕ → ℕ → ℕ → ConnectFault → Type 0
EndsEarly count moment before seen told told' failures failures' faults faults' fault.Gateway =
    Rose faults faults'
    × (CameBack told told' (AreServed count moment before seen)
    ⊎ (Rose failures failures'
    × CameBack told told' (λ connections. AreServed (length connections) moment before seen connections)))
EndsEarly count moment before seen told told' failures failures' faults faults' fault.OutOfMemory = Unit {0}
