-- For one worker an input has one output; and replies that are by proofs are sound.
use Rattle.std.specs.Prelude.{◌≡◌, ℕ, List}
use Rattle.std.specs.List.{AllZip}
use Rattle.denial_records.specs.declared.batch.Batch.{Batch}
use Rattle.replay_meaning.specs.Frame.{Input}
use Rattle.replay_meaning.specs.OutFrame.{Output}
use Rattle.replay_meaning.specs.Fits.{Rule, Fits}
use Rattle.reply_core.specs.Answered.{reply_in}
use Rattle.replay_meaning.specs.Replay.{IsReplay}
use Rattle.replay_meaning.specs.Sound.{IsSoundReply}

-- two outputs that fit its frames are the same
abbrev pub HasOneOutput : Type 0
HasOneOutput =
    (rule : Rule) (inputs : List Input) (placed placed' : List Batch) (outputs outputs' : List Output)
    → Fits rule inputs 1 placed outputs → Fits rule inputs 1 placed' outputs' → outputs ≡ outputs'

-- two replays of it are the same octets
abbrev pub HasOneReplay : Type 0
HasOneReplay = (octets output output' : List ℕ) → IsReplay 1 octets output → IsReplay 1 octets output' → output ≡ output'

-- where each query has the reply of what is proved of it, each reply is sound
abbrev pub RepliesAreSound : Type 0
RepliesAreSound =
    (inputs : List Input) (workers : ℕ) (placed : List Batch) (outputs : List Output)
    → Fits reply_in inputs workers placed outputs → AllZip (IsSoundReply placed) inputs outputs
