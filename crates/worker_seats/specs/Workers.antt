-- What all workers did, each over its own seat.
use Rattle.std.specs.Prelude.{◌≡◌, ℕ, ◌<◌, ◌≤◌, ◌==◌, List, ◌++◌, length, filter, slice_index_or}
use Rattle.std.specs.List.{All, AllZip}
use mathlib.Core.List.{IsPrefix}
use Rattle.denial_records.specs.declared.batch.Batch.{Batch}
use Rattle.cache_meaning.specs.Held.{Held}
use Rattle.cache_versions.specs.declared.state.State.{Ghosts}
use Rattle.cache_versions.specs.declared.seat.Seat.{Seat}
use Rattle.cache_versions.specs.Seats.{places_by, seen_by}
use Rattle.replay_meaning.specs.Frame.{Input}
use Rattle.replay_meaning.specs.OutFrame.{Output, IsOutput, outputs_spelling}
use Rattle.replay_meaning.specs.Fits.{Rule}
use Rattle.worker_seats.specs.Answer.{AreFewEnough}
use Rattle.worker_seats.specs.Shift.{IsShift}

-- the frames of one worker, in their order
abbrev pub inputs_of : ℕ → List Input → List Input
inputs_of worker inputs = filter (λ input. input.worker == worker) inputs

abbrev pub outputs_of : ℕ → List Output → List Output
outputs_of worker outputs = filter (λ output. output.worker == worker) outputs

abbrev pub HasSameWorker : Input → Output → Type 0
HasSameWorker input output = output.worker ≡ input.worker

module _ {g : Ghosts Held Batch (Unit {0})} where
  -- a worker did its frames, and this is what its seat was before and is after
  pub record HasWorked (rule : Rule) (before after : Seat Held Batch (Unit {0}) g) (inputs : List Input) (outputs : List Output) : Type 0 where
    pub begins : IsPrefix (seen_by before) (seen_by after)
    pub same : AllZip HasSameWorker inputs outputs
    pub placed : List ℕ
    pub places : places_by after ≡ places_by before ++ placed
    -- each frame has placed one batch at most
    pub few : length placed ≤ length inputs
    pub shift : AreFewEnough (seen_by after) → IsShift rule (seen_by after) placed inputs outputs

  -- every worker did its frames, over the seat at its number, and the octets are the outputs in the order of the inputs
  pub record HaveWorked (rule : Rule) (before after : List (Seat Held Batch (Unit {0}) g)) (inputs : List Input) (octets : List ℕ) : Type 0 where
    pub outputs : List Output
    pub written : octets ≡ outputs_spelling outputs
    pub valid : All IsOutput outputs
    pub same : AllZip HasSameWorker inputs outputs
    pub each :
        (worker : ℕ) (d : Seat Held Batch (Unit {0}) g) → worker < length before
        → HasWorked rule (slice_index_or before worker d) (slice_index_or after worker d) (inputs_of worker inputs) (outputs_of worker outputs)
