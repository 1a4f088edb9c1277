-- No public clause cites this module. What one worker leaves: its seat, and the octets of its outputs.
use Rattle.std.specs.Prelude.{◌≡◌, ℕ, ◌+◌, ◌<◌, ◌≤◌, ◌⊎◌, List, [], ◌∷◌, ◌++◌, length, slice_index_or}
use Rattle.std.specs.List.{All}
use Rattle.denial_records.specs.declared.batch.Batch.{Batch}
use Rattle.cache_meaning.specs.Held.{Held}
use Rattle.cache_versions.specs.declared.state.State.{Ghosts}
use Rattle.cache_versions.specs.declared.seat.Seat.{Seat}
use Rattle.replay_meaning.specs.Frame.{Input}
use Rattle.replay_meaning.specs.OutFrame.{Output, IsOutput, outputs_spelling}
use Rattle.replay_meaning.specs.Fits.{Rule}
use Rattle.resolver.specs.Caches.{HasGoneOn}
use Rattle.resolver.specs.declared.shared_cache.SharedCache.{SharedCache}
use Rattle.worker_seats.specs.declared.cut.Cut.{Cut}
use Rattle.worker_seats.specs.declared.cut.TheConstants.{RANGE}
use Rattle.worker_seats.specs.declared.shift.Job.{Job}
use Rattle.worker_seats.specs.declared.shift.Shift.{Shift}
use Rattle.worker_seats.specs.Cuts.{AreCuts, Part}
use Rattle.worker_seats.specs.Workers.{HasWorked, inputs_of}

module _ {g : Ghosts Held Batch (Unit {0})} where
  -- the worker did its own of the inputs, in their order
  pub record IsWork (rule : Rule) (worker : ℕ) (before after : Seat Held Batch (Unit {0}) g) (inputs : List Input) (octets : List ℕ) : Type 0 where
    pub outputs : List Output
    pub written : octets ≡ outputs_spelling outputs
    pub valid : All IsOutput outputs
    pub own : All (λ output. output.worker ≡ worker) outputs
    pub worked : HasWorked rule before after (inputs_of worker inputs) outputs

-- the worker did its work over its seat of the cache, and leaves this
pub record IsShiftOf (rule : Rule) (cache : SharedCache) (job : Job) (inputs : List Input) (shift : Shift) : Type 0 where
  pub on : HasGoneOn cache job.seat shift.seat
  pub work : IsWork rule job.worker job.seat shift.seat inputs shift.octets.items
  pub cuts : AreCuts job.worker inputs shift.octets.items shift.cuts.items

-- what it has written
abbrev pub part_of : Shift → Part
part_of shift = record { octets = shift.octets.items; cuts = shift.cuts.items }

-- each job is that of the worker at its place
abbrev pub ArePlaced : List Job → Type 0
ArePlaced jobs = (place : ℕ) (d : Job) → place < length jobs → (slice_index_or jobs place d).worker ≡ place

-- One more frame is passed, of a range of which so many were. It begins the next range where that one is full, behind a cut.
abbrev pub HasPassed : ℕ → Cut → List Cut → List Cut → ℕ → Type 0
HasPassed passed here before after now =
    ((passed < RANGE) × (after ≡ before) × (now ≡ passed + 1)) ⊎ ((RANGE ≤ passed) × (after ≡ before ++ here ∷ []) × (now ≡ 1))
