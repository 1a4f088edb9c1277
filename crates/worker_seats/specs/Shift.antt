-- What one worker did with its own frames, in their order.
use Rattle.std.specs.Prelude.{◌≡◌, ℕ, ◌<◌, ◌≤◌, true, List, AllPairs}
use Rattle.std.specs.List.{AllZip, flat_map}
use Rattle.denial_records.specs.declared.batch.Batch.{Batch}
use Rattle.replay_meaning.specs.Frame.{Input}
use Rattle.replay_meaning.specs.OutFrame.{Output}
use Rattle.replay_meaning.specs.Fits.{Rule, is_call, is_placed}
use Rattle.worker_seats.specs.Answer.{IsAnswered}
use Rattle.worker_seats.specs.OneFrame.{places_of}

-- of two calls of a worker the later has no lower version, and a higher one where it places a batch
pub record IsInTurn (earlier later : Output) : Type 0 where
  pub never_back : is_call earlier.kind ≡ true → is_call later.kind ≡ true → earlier.version ≤ later.version
  pub rises : is_call earlier.kind ≡ true → is_placed later.kind ≡ true → earlier.version < later.version

-- where the worker's seat has seen these batches in the end, and has placed batches at these places of them
pub record IsShift (rule : Rule) (seen : List Batch) (placed : List ℕ) (inputs : List Input) (outputs : List Output) : Type 0 where
  pub each : AllZip (IsAnswered rule seen) inputs outputs
  pub order : AllPairs IsInTurn outputs
  pub places : placed ≡ flat_map places_of outputs
