-- What one pair says at a version, and what is wrong with its reply. No public clause cites this module.
use Rattle.std.specs.Prelude.{◌≡◌, Bool, true, false, List, [], ◌∷◌, Option, Some, None}
use Rattle.dname.specs.Name.{Label}
use Rattle.dnswire.specs.declared.question.Question.{Question}
use Rattle.denial_records.specs.Proof.{Proof}
use Rattle.denial_records.specs.declared.batch.Batch.{Batch}
use Rattle.zone_meaning.specs.Zone.{Zone}
use Rattle.replay_meaning.specs.Frame.{Input}
use Rattle.replay_meaning.specs.OutFrame.{Output}
use Rattle.replay_meaning.specs.Step.{Step, Query, Insert, Tell, Does}
use Rattle.run_audit.specs.Version.{version_of, output_at}
use Rattle.run_audit.specs.Faults.{IsFaultOf}
use Rattle.run_audit.specs.Findings.{IsReplyTo, IsFaultless}
use Rattle.run_audit.specs.declared.fault.Fault.{Fault}
use Rattle.run_audit.specs.declared.checked.Checked.{Checked}
use Rattle.run_audit.specs.declared.checked.Checked.TheVariants.{Wrong, Right, Faulty, Placed}

-- ---- whether it is right

-- what a step places
abbrev pub placed_by : Step → List Batch
placed_by (Query question) = []
placed_by (Insert taken) = taken.batch ∷ []
placed_by (Tell kind body) = []

-- where these batches are placed, the output frame is that of the input frame's step, which then places these
pub record IsRight (placed : List Batch) (input : Input) (output : Output) (more : List Batch) : Type 0 where
  pub step : Step
  pub does : Does input step
  pub is : output ≡ output_at (version_of placed) input step
  pub brings : placed_by step ≡ more

-- it isn't, whatever the input frame does
abbrev pub IsWrong : List Batch → Input → Output → Type 0
IsWrong placed input output = (step : Step) → Does input step → output ≡ output_at (version_of placed) input step → ⊥

-- ---- what is wrong with its reply

-- if it is one, it has no fault
abbrev pub IsClear : Zone → List Batch → Input → Output → Type 0
IsClear zone placed input output =
    (question : Question) (proof : Proof) → IsReplyTo placed input output question proof
    → IsFaultless zone question.name proof

-- it is one, and has this fault
pub record IsFaulty (zone : Zone) (placed : List Batch) (input : Input) (output : Output) (fault : Fault) : Type 0 where
  pub question : Question
  pub proof : Proof
  pub reply : IsReplyTo placed input output question proof
  pub is : IsFaultOf zone question.name proof (Some fault)

abbrev pub IsFaultIn : Zone → List Batch → Input → Output → Option Fault → Type 0
IsFaultIn zone placed input output None = IsClear zone placed input output
IsFaultIn zone placed input output (Some fault) = IsFaulty zone placed input output fault

-- ---- both

abbrev pub IsChecked : Zone → List Batch → Input → Output → Checked → Type 0
IsChecked zone placed input output Wrong = IsWrong placed input output
IsChecked zone placed input output Right = IsRight placed input output [] × IsClear zone placed input output
IsChecked zone placed input output (Faulty fault) = IsRight placed input output [] × IsFaulty zone placed input output fault
IsChecked zone placed input output (Placed batch) = IsRight placed input output (batch ∷ [])

-- of a frame that has no reply
abbrev pub told : Bool → Checked
told true = Right
told false = Wrong

-- of a right reply
abbrev pub checked_by : Option Fault → Checked
checked_by None = Right
checked_by (Some fault) = Faulty fault

-- of a question about the name that has this proof: the output frame is the one that is awaited, with a reply of the proof
abbrev pub IsReplyChecked : Zone → List Label → Proof → Output → Output → Checked → Type 0
IsReplyChecked zone name proof output awaited Wrong = output ≡ awaited → ⊥
IsReplyChecked zone name proof output awaited Right = (output ≡ awaited) × IsFaultless zone name proof
IsReplyChecked zone name proof output awaited (Faulty fault) = (output ≡ awaited) × IsFaultOf zone name proof (Some fault)
IsReplyChecked zone name proof output awaited (Placed batch) = ⊥

-- of an answer of which this batch is to be stored: the output frame is the one that is awaited
abbrev pub IsStoredChecked : Batch → Output → Output → Checked → Type 0
IsStoredChecked stored output awaited Wrong = output ≡ awaited → ⊥
IsStoredChecked stored output awaited Right = ⊥
IsStoredChecked stored output awaited (Faulty fault) = ⊥
IsStoredChecked stored output awaited (Placed batch) = (batch ≡ stored) × (output ≡ awaited)
