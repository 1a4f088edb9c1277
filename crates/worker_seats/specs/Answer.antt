-- What an input frame is answered, by the batches that its worker's seat has seen.
use Rattle.std.specs.Prelude.{◌<◌, ◌^◌, List, length}
use Rattle.denial_records.specs.declared.batch.Batch.{Batch}
use Rattle.replay_meaning.specs.Frame.{Input}
use Rattle.replay_meaning.specs.OutFrame.{Output}
use Rattle.replay_meaning.specs.Step.{Step, Does}
use Rattle.replay_meaning.specs.Fits.{Rule, IsOutputOf}

-- an output frame has room for their number
abbrev pub AreFewEnough : List Batch → Type 0
AreFewEnough seen = length seen < 2 ^ 32

-- the output frame is that of the input frame's step, where the batches seen were placed and queries are answered by the rule
pub record IsAnswered (rule : Rule) (seen : List Batch) (input : Input) (output : Output) : Type 0 where
  pub step : Step
  pub does : Does input step
  pub says : IsOutputOf rule seen input step output
