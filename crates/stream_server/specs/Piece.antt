-- No public clause cites this module. What a server does of the octets that have come so far.
use Rattle.std.specs.Prelude.{◌≡◌, ℕ, List, length, Option, IfSome, Result, Ok, Err}
use Rattle.std.specs.List.{All}
use Rattle.denial_records.specs.declared.batch.Batch.{Batch}
use Rattle.outside_core.specs.Fault.{Rose}
use Rattle.outside_core.specs.declared.failed.Failed.{Failed}
use Rattle.outside_core.specs.Told.{append_told}
use Rattle.stream_front.specs.Split.{Begins, IsLeft, IsPart, Left, Rest, TooSmall, rest_in}
use Rattle.stream_server.specs.Turn.{IsAnswered}
use Rattle.stream_server.specs.Stream.{Turn, IsTurn, IsCutShort, asked_in, sent_of}
use Rattle.stream_server.specs.declared.stream_fault.StreamFault.{StreamFault}
use Rattle.stream_server.specs.declared.stream_fault.StreamFault.TheVariants as fault

-- all whole messages are answered, and so many octets are left; or it ends early
abbrev pub EndsPiece : List ℕ → List Turn → List ℕ → Result ℕ StreamFault → Type 0
EndsPiece rest turns went (Ok count) = (length rest ≡ count) × IsPart rest × (went ≡ sent_of turns)
EndsPiece rest turns went (Err fault.Source) = ⊥
EndsPiece rest turns went (Err fault.Sink) = IsCutShort went (sent_of turns)
EndsPiece rest turns went (Err (fault.TooSmall size)) = IsLeft rest (TooSmall size) × (went ≡ sent_of turns)
EndsPiece rest turns went (Err fault.TooLong) = ⊥
EndsPiece rest turns went (Err fault.OutOfMemory) = ⊥

pub record AreAnswered (now : ℕ) (seen seen' : List Batch) (octets : List ℕ) (written written' : Option (List ℕ)) (result : Result ℕ StreamFault) : Type 0 where
  pub rest : List ℕ
  pub turns : List Turn
  pub stands : Begins octets (asked_in turns) rest
  pub each : All (IsTurn (length seen) seen') turns
  pub moments : All (λ turn. turn.now ≡ now) turns
  pub went : List ℕ
  pub written_are : written' ≡ append_told written went
  pub ends : EndsPiece rest turns went result

-- the sink's count of faults rises where it failed, and else stays
abbrev pub SinkFaults : {T : Type 0} → ℕ → ℕ → Result T StreamFault → Type 0
SinkFaults sink sink' (Ok done) = sink' ≡ sink
SinkFaults sink sink' (Err fault.Source) = ⊥
SinkFaults sink sink' (Err fault.Sink) = Rose sink sink'
SinkFaults sink sink' (Err (fault.TooSmall size)) = sink' ≡ sink
SinkFaults sink sink' (Err fault.TooLong) = ⊥
SinkFaults sink sink' (Err fault.OutOfMemory) = ⊥

-- one message is answered and all of that is written; or a part of it, where the sink fails
abbrev pub IsOneAnswered : ℕ → List Batch → List ℕ → Option (List ℕ) → Option (List ℕ) → Result (Unit {0}) Failed → Type 0
IsOneAnswered now seen message written written' (Ok done) =
    (octets : List ℕ) × IsAnswered seen now message octets × (written' ≡ append_told written octets)
IsOneAnswered now seen message written written' (Err failed) =
    (octets went : List ℕ) × IsAnswered seen now message octets × IsCutShort went octets
    × (written' ≡ append_told written went)

-- all whole messages are answered, and the front has what is left; or it ends early
abbrev pub EndsRead : Left → List ℕ → List Turn → List ℕ → Result (Unit {0}) StreamFault → Type 0
EndsRead front rest turns went (Ok done) = (front ≡ Rest rest) × IsPart rest × (went ≡ sent_of turns)
EndsRead front rest turns went (Err fault.Source) = ⊥
EndsRead front rest turns went (Err fault.Sink) = IsCutShort went (sent_of turns)
EndsRead front rest turns went (Err (fault.TooSmall size)) = IsLeft rest (TooSmall size) × (went ≡ sent_of turns)
EndsRead front rest turns went (Err fault.TooLong) = ⊥
EndsRead front rest turns went (Err fault.OutOfMemory) = ⊥

-- what a front has is answered as far as messages are whole, at the one moment that the clock tells, if it tells one
pub record HasAnswered (moment : Option ℕ) (seen seen' : List Batch) (front front' : Left) (written written' : Option (List ℕ)) (result : Result (Unit {0}) StreamFault) : Type 0 where
  pub rest : List ℕ
  pub turns : List Turn
  pub stands : Begins (rest_in front) (asked_in turns) rest
  pub each : All (IsTurn (length seen) seen') turns
  pub moments : IfSome moment (λ always. All (λ turn. turn.now ≡ always) turns)
  pub went : List ℕ
  pub written_are : written' ≡ append_told written went
  pub ends : EndsRead front' rest turns went result
