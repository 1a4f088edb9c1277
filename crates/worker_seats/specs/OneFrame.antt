-- What one frame does over its worker's seat, and writes at the end of the output.
use Rattle.std.specs.Prelude.{◌≡◌, ℕ, ◌-◌, ◌<◌, ◌^◌, ◌⊎◌, true, cond, List, [], ◌∷◌, ◌++◌, length}
use mathlib.Core.List.{IsPrefix}
use Rattle.denial_records.specs.declared.batch.Batch.{Batch}
use Rattle.intake.specs.Batch.{IsTaken}
use Rattle.intake.specs.declared.taken.Taken.{Taken}
use Rattle.cache_meaning.specs.Held.{Held}
use Rattle.cache_versions.specs.declared.state.State.{Ghosts}
use Rattle.cache_versions.specs.declared.seat.Seat.{Seat}
use Rattle.cache_versions.specs.Seats.{places_by, seen_by}
use Rattle.replay_meaning.specs.Frame.{Input}
use Rattle.replay_meaning.specs.OutFrame.{Output, IsOutput, output_spelling}
use Rattle.replay_meaning.specs.Step.{Step, Query, Insert, Tell}
use Rattle.replay_meaning.specs.Fits.{Rule, is_placed}
use Rattle.replay_meaning.specs.declared.frame.Frame.{Frame}
use Rattle.replay_meaning.specs.declared.frame.FrameKind.TheVariants.{Upstream}
use Rattle.replay_meaning.specs.declared.out_frame.OutKind.{OutKind}
use Rattle.worker_seats.specs.Answer.{AreFewEnough, IsAnswered}

-- ---- octets

-- an output frame for the frame's worker
abbrev pub output_for : Frame → OutKind → ℕ → List ℕ → Output
output_for frame kind version body = record { kind = kind; worker = frame.worker; version = version; body = body }

-- the octets have got the frame at their end
pub record Writes (output : Output) (before after : List ℕ) : Type 0 where
  pub valid : IsOutput output
  pub written : after ≡ before ++ output_spelling output

-- the octets have got a frame of the worker at their end, which is this one if there is room for its version
pub record WritesCall (output : Output) (before after : List ℕ) : Type 0 where
  pub told : Output
  pub worker : told.worker ≡ output.worker
  pub same : output.version < 2 ^ 32 → told ≡ output
  pub writes : Writes told before after

-- ---- the seat

-- the step is a call of the cache
abbrev pub IsCall : Step → Type 0
IsCall (Query question) = Unit {0}
IsCall (Insert taken) = Unit {0}
IsCall (Tell kind body) = ⊥

-- where the batch stands that the frame has placed, if it has placed one
abbrev pub places_of : Output → List ℕ
places_of output = cond (is_placed output.kind) ((output.version - 1) ∷ []) []

module _ {g : Ghosts Held Batch (Unit {0})} where
  -- the frame is answered, and this is what its seat was before and is after
  pub record IsDone (rule : Rule) (before after : Seat Held Batch (Unit {0}) g) (input : Input) (output : Output) : Type 0 where
    pub answered : IsAnswered rule (seen_by after) input output
    -- a call is told with the number of batches that the seat has then seen
    pub version : IsCall answered.step → output.version ≡ length (seen_by after)
    -- a placed batch is a new one
    pub rises : is_placed output.kind ≡ true → length (seen_by before) < length (seen_by after)
    -- its place is the seat's last one
    pub places : places_by after ≡ places_by before ++ places_of output
    pub idle : (IsCall answered.step → ⊥) → after ≡ before

  -- Such a frame is done, and the octets have got its output at their end. If more batches were seen than an output can tell, it
  -- may be any of the worker: a run of fewer frames never comes there.
  pub record DoesOneFrame (rule : Rule) (before after : Seat Held Batch (Unit {0}) g) (input : Input) (octets octets' : List ℕ) : Type 0 where
    pub output : Output
    pub worker : output.worker ≡ input.worker
    pub done : AreFewEnough (seen_by after) → IsDone rule before after input output
    pub writes : Writes output octets octets'

  -- The frame is an upstream answer, and what intake takes of it is the last batch seen, behind a journal that begins with what
  -- the seat had seen. Its place is the seat's last one.
  pub record HasPlaced (before after : Seat Held Batch (Unit {0}) g) (input : Input) : Type 0 where
    pub taken : Taken
    pub upstream : input.kind ≡ Upstream
    pub takes : IsTaken input.message input.now taken
    pub former : List Batch
    pub begins : IsPrefix (seen_by before) former
    pub seen : seen_by after ≡ former ++ taken.batch ∷ []
    pub places : places_by after ≡ places_by before ++ length former ∷ []

  -- the seat has placed nothing, or the frame's own batch
  abbrev pub HasPlacedAtMost : Seat Held Batch (Unit {0}) g → Seat Held Batch (Unit {0}) g → Input → Type 0
  HasPlacedAtMost before after input = (places_by after ≡ places_by before) ⊎ HasPlaced before after input
