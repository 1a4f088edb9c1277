-- What fits, clause by clause, and the first clause that a recorded run breaks.
use Rattle.std.specs.Prelude.{◌≡◌, ℕ, ◌<◌, ◌≤◌, ◌↔◌, true, List, length, count_by, AllPairs}
use Rattle.std.specs.List.{All, AllZip}
use Rattle.denial_records.specs.declared.batch.Batch.{Batch}
use Rattle.reply_core.specs.Answered.{reply_in}
use Rattle.replay_meaning.specs.Frame.{Input}
use Rattle.replay_meaning.specs.OutFrame.{Output}
use Rattle.replay_meaning.specs.Step.{Step, Does}
use Rattle.replay_meaning.specs.Fits.{IsOutputOf, IsInOrder, Fits, is_placed, places}
use Rattle.run_audit.specs.declared.clause.Clause.{Clause}
use Rattle.run_audit.specs.declared.clause.Clause.TheVariants.{Frames, Versions, Outcomes, Order}

-- as many workers as a run can have
abbrev pub MOST_WORKERS : ℕ
MOST_WORKERS = 32

-- ---- the clauses

-- the output frame is of the input frame's worker, which is one of so many
pub record IsOneWorkers (workers : ℕ) (input : Input) (output : Output) : Type 0 where
  pub below : input.worker < workers
  pub same : output.worker ≡ input.worker

-- one output frame for each input frame, in order
abbrev pub ArePaired : ℕ → List Input → List Output → Type 0
ArePaired workers inputs outputs = AllZip (IsOneWorkers workers) inputs outputs

-- how many output frames place a batch
abbrev pub placed_in : List Output → ℕ
placed_in outputs = count_by (λ output. is_placed output.kind) outputs

-- the versions of those frames are the numbers from 1 to how many they are, each once
pub record AreNumbered (outputs : List Output) : Type 0 where
  pub within : All (λ output. is_placed output.kind ≡ true → (1 ≤ output.version) × (output.version ≤ placed_in outputs)) outputs
  pub once : (version : ℕ) → 1 ≤ version → version ≤ placed_in outputs → count_by (places version) outputs ≡ 1

-- the output frame is that of the input frame, where these batches are placed
pub record IsAnswer (placed : List Batch) (input : Input) (output : Output) : Type 0 where
  pub step : Step
  pub does : Does input step
  pub says : IsOutputOf reply_in placed input step output

-- by some batches, as many as are placed, each output frame is that of its input frame
pub record AreAnswers (inputs : List Input) (outputs : List Output) : Type 0 where
  pub placed : List Batch
  pub number : length placed ≡ placed_in outputs
  pub each : AllZip (IsAnswer placed) inputs outputs

-- each worker's calls are in its order
abbrev pub AreInOrder : List Output → Type 0
AreInOrder outputs = AllPairs IsInOrder outputs

-- ---- the first that is broken

-- their numbers, in the order in which they are tried
abbrev pub clause_number : Clause → ℕ
clause_number Frames = 1
clause_number Versions = 2
clause_number Outcomes = 3
clause_number Order = 4

-- the clauses before it hold, and it doesn't
abbrev pub IsFirstBroken : List Input → List Output → Clause → Type 0
IsFirstBroken inputs outputs Frames = ArePaired MOST_WORKERS inputs outputs → ⊥
IsFirstBroken inputs outputs Versions = ArePaired MOST_WORKERS inputs outputs × (AreNumbered outputs → ⊥)
IsFirstBroken inputs outputs Outcomes =
    ArePaired MOST_WORKERS inputs outputs × AreNumbered outputs × (AreAnswers inputs outputs → ⊥)
IsFirstBroken inputs outputs Order =
    ArePaired MOST_WORKERS inputs outputs × AreNumbered outputs × AreAnswers inputs outputs × (AreInOrder outputs → ⊥)

-- the outputs fit the inputs, for some batches
abbrev pub DoFit : List Input → List Output → Type 0
DoFit inputs outputs = (placed : List Batch) × Fits reply_in inputs MOST_WORKERS placed outputs

-- ---- laws

-- the clauses together say that they fit
abbrev pub ClausesSayFit : Type 0
ClausesSayFit =
    (inputs : List Input) (outputs : List Output)
    → DoFit inputs outputs
    ↔ (ArePaired MOST_WORKERS inputs outputs × AreNumbered outputs × AreAnswers inputs outputs × AreInOrder outputs)
