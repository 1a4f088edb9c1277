-- What one frame does to the cache, at the version that it meets. No public clause cites this module.
use Rattle.std.specs.Prelude.{◌≡◌, ℕ, ◌+◌, List, length}
use Rattle.denial_records.specs.declared.batch.Batch.{Batch}
use Rattle.cache_meaning.specs.Held.{Held, held_after, held_of}
use Rattle.reply_core.specs.Answered.{reply_in}
use Rattle.replay_meaning.specs.Frame.{Input}
use Rattle.replay_meaning.specs.Step.{Step, Query, Insert, Tell, Does}
use Rattle.replay_meaning.specs.OutFrame.{Output}
use Rattle.replay_meaning.specs.Fits.{query_output, insert_output, told_output}

-- a version of the cache: the records held, and its number, which is how many batches were placed
pub record Version : Type 0 where
  pub held : Held
  pub number : ℕ

-- the one that these batches make, in order
abbrev pub version_of : List Batch → Version
version_of placed = record { held = held_of placed; number = length placed }

-- an insert makes the next one
abbrev pub version_after : Version → Step → Version
version_after version (Query question) = version
version_after version (Insert taken) = record { held = held_after version.held taken.batch; number = version.number + 1 }
version_after version (Tell kind body) = version

-- the output frame of a step that meets the version
abbrev pub output_at : Version → Input → Step → Output
output_at version input (Query question) = query_output input.worker version.number (reply_in version.held question input.now)
output_at version input (Insert taken) = insert_output input.worker (version.number + 1) taken
output_at version input (Tell kind body) = told_output input.worker kind body

-- the frame, at the version, has the output, and leaves the version after it
pub record IsOneFrame (version : Version) (input : Input) (output : Output) (after : Version) : Type 0 where
  pub step : Step
  pub does : Does input step
  pub output_is : output ≡ output_at version input step
  pub after_is : after ≡ version_after version step
