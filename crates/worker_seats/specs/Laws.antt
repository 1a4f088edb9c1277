-- What the workers of a cache did fits, once the cache is closed; and what a replay by walks is.
use Rattle.std.specs.Prelude.{◌≡◌, ℕ, ◌<◌, ◌≤◌, ◌^◌, List, [], length, slice_index_or}
use Rattle.std.specs.List.{All, AllZip, flat_map}
use mathlib.Core.List.{IsPrefix}
use Rattle.denial_records.specs.declared.batch.Batch.{Batch}
use Rattle.cache_versions.specs.Hands.{AreAllBelow}
use Rattle.replay_meaning.specs.Frame.{Input}
use Rattle.replay_meaning.specs.OutFrame.{Output}
use Rattle.replay_meaning.specs.Fits.{Rule, Fits}
use Rattle.resolver.specs.WalkReply.{walk_reply_in}
use Rattle.resolver.specs.declared.rule.Rule.{Rule as WalkRule}
use Rattle.worker_seats.specs.Answer.{AreFewEnough}
use Rattle.worker_seats.specs.Shift.{IsShift}
use Rattle.worker_seats.specs.Workers.{HasSameWorker, inputs_of, outputs_of}
use Rattle.worker_seats.specs.WalkReplay.{IsSoundWalkReply, IsWalkReplay}

-- the shifts of so many workers of one new cache, which was closed with this journal
pub record AreShifts (rule : Rule) (workers : ℕ) (journal : List Batch) (inputs : List Input) (outputs : List Output) : Type 0 where
  pub below : All (λ input. input.worker < workers) inputs
  pub same : AllZip HasSameWorker inputs outputs
  -- what each worker's seat has seen, and where it has placed batches
  pub seen : ℕ → List Batch
  pub placed : List (List ℕ)
  pub all : length placed ≡ workers
  pub begins : (worker : ℕ) → worker < workers → IsPrefix (seen worker) journal
  pub once : AreAllBelow (length journal) (flat_map (λ places. places) placed)
  -- each frame has placed one batch at most
  pub few : (worker : ℕ) → worker < workers → length (slice_index_or placed worker []) ≤ length (inputs_of worker inputs)
  pub shifts :
      (worker : ℕ) → worker < workers → AreFewEnough (seen worker)
      → IsShift rule (seen worker) (slice_index_or placed worker []) (inputs_of worker inputs) (outputs_of worker outputs)

-- the outputs fit the inputs where the batches of the journal are placed
abbrev pub ShiftsFit : Type 0
ShiftsFit =
    (rule : Rule) (workers : ℕ) (journal : List Batch) (inputs : List Input) (outputs : List Output)
    → length inputs < 2 ^ 32 → AreShifts rule workers journal inputs outputs → Fits rule inputs workers journal outputs

-- where each query has the reply of a walk by the rule, each reply is that of a sound walk
abbrev pub WalkRepliesAreSound : Type 0
WalkRepliesAreSound =
    (rule : WalkRule) (inputs : List Input) (workers : ℕ) (placed : List Batch) (outputs : List Output)
    → Fits (walk_reply_in rule) inputs workers placed outputs → AllZip (IsSoundWalkReply rule placed) inputs outputs

-- two replays by walks of one rule, for one worker, are the same octets
abbrev pub HasOneWalkReplay : Type 0
HasOneWalkReplay =
    (rule : WalkRule) (octets output output' : List ℕ)
    → IsWalkReplay rule 1 octets output → IsWalkReplay rule 1 octets output' → output ≡ output'
