-- The earliest frame whose reply has a fault. No public clause cites this module.
use Rattle.std.specs.Prelude.{◌≡◌, ℕ, ◌<◌, nat_lt, if◌then◌else◌, List, Option, Some, None}
use Rattle.std.specs.List.{All, Contains}
use Rattle.denial_records.specs.declared.batch.Batch.{Batch}
use Rattle.zone_meaning.specs.Zone.{Zone}
use Rattle.run_audit.specs.Clauses.{AreAnswers}
use Rattle.run_audit.specs.Pairs.{input_in, output_in, inputs_in, outputs_in}
use Rattle.run_audit.specs.Answering.{IsClear, IsFaulty}
use Rattle.run_audit.specs.declared.answering.Answered.{Answered}
use Rattle.run_audit.specs.declared.answering.Answered.TheVariants.{Wrong, Right}
use Rattle.run_audit.specs.declared.fault.Fault.{Fault}
use Rattle.run_audit.specs.declared.fault.Fault.TheVariants as faults
use Rattle.run_audit.specs.declared.fault_at.FaultAt.{FaultAt}
use Rattle.run_audit.specs.declared.finding.Finding.{Finding}
use Rattle.run_audit.specs.declared.finding.Finding.TheVariants.{Yes, Record, Clash}
use Rattle.run_audit.specs.declared.pair.FramePair.{FramePair}

-- the one of the earlier frame
abbrev pub earlier : Option FaultAt → FaultAt → FaultAt
earlier None other = other
earlier (Some one) other = if nat_lt one.at other.at then one else other

-- a pair's reply, if it is one, has no fault
abbrev pub IsClearPair : Zone → List Batch → FramePair → Type 0
IsClearPair zone placed pair = IsClear zone placed (input_in pair) (output_in pair)

-- the pair of the frame is there, and its reply has the fault
pub record IsFaultAt (zone : Zone) (placed : List Batch) (pairs : List FramePair) (first : FaultAt) : Type 0 where
  pub pair : FramePair
  pub there : Contains pairs pair
  pub at_is : pair.at ≡ first.at
  pub faulty : IsFaulty zone placed (input_in pair) (output_in pair) first.fault

-- it is the fault of the earliest frame that has one, if one has
abbrev pub IsFirstFault : Zone → List Batch → List FramePair → Option FaultAt → Type 0
IsFirstFault zone placed pairs None = All (IsClearPair zone placed) pairs
IsFirstFault zone placed pairs (Some first) =
    IsFaultAt zone placed pairs first × All (λ pair. pair.at < first.at → IsClearPair zone placed pair) pairs

-- each output frame is that of its input frame, and this is the first fault of a reply
pub record HasFirst (zone : Zone) (pairs : List FramePair) (first : Option FaultAt) : Type 0 where
  pub answers : AreAnswers (inputs_in pairs) (outputs_in pairs)
  pub first_is : IsFirstFault zone answers.placed pairs first

abbrev pub IsAnswered : Zone → List FramePair → Answered → Type 0
IsAnswered zone pairs Wrong = AreAnswers (inputs_in pairs) (outputs_in pairs) → ⊥
IsAnswered zone pairs (Right first) = HasFirst zone pairs first

-- ---- of a run that fits

abbrev pub finding_at : ℕ → Fault → Finding
finding_at at (faults.Record used) = Record at used
finding_at at faults.Clash = Clash at

abbrev pub finding_of : ℕ → Option FaultAt → Finding
finding_of replies None = Yes replies
finding_of replies (Some first) = finding_at first.at first.fault
