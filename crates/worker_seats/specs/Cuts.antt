-- Cuts between ranges of the frames: where each stands in the input, and in the output of a worker.
use Rattle.std.specs.Prelude.{◌≡◌, ℕ, ◌+◌, ◌*◌, ◌-◌, ◌/◌, ◌<◌, List, length, take, map, slice_index_or}
use Rattle.std.specs.List.{All}
use Rattle.replay_meaning.specs.Frame.{Input, inputs_spelling}
use Rattle.replay_meaning.specs.OutFrame.{Output, IsOutput, outputs_spelling}
use Rattle.worker_seats.specs.Workers.{inputs_of}
use Rattle.worker_seats.specs.declared.cut.Cut.{Cut}
use Rattle.worker_seats.specs.declared.cut.TheConstants.{RANGE}

-- what a worker has written, and where it stood at each cut
pub record Part : Type 0 where
  pub octets : List ℕ
  pub cuts : List Cut

abbrev pub parts_of : List Part → List (List ℕ)
parts_of outputs = map (λ part. part.octets) outputs

-- the cut behind so many frames
pub record IsCut (worker : ℕ) (inputs : List Input) (octets : List ℕ) (frames : ℕ) (cut : Cut) : Type 0 where
  pub from : cut.from ≡ length (inputs_spelling (take frames inputs))
  pub place :
      (outputs : List Output) → All IsOutput outputs → octets ≡ outputs_spelling outputs
      → cut.place ≡ length (outputs_spelling (take (length (inputs_of worker (take frames inputs))) outputs))

-- behind each range but the last
abbrev pub cuts_in : ℕ → ℕ
cuts_in frames = (frames - 1) / RANGE

pub record AreCuts (worker : ℕ) (inputs : List Input) (octets : List ℕ) (cuts : List Cut) : Type 0 where
  pub many : length cuts ≡ cuts_in (length inputs)
  pub each : (k : ℕ) (d : Cut) → k < length cuts → IsCut worker inputs octets (RANGE * (k + 1)) (slice_index_or cuts k d)

-- all workers have cut there
abbrev pub AreCut : List Part → List Input → Type 0
AreCut outputs inputs =
    (worker : ℕ) (d : Part) → worker < length outputs
    → AreCuts worker inputs (slice_index_or outputs worker d).octets (slice_index_or outputs worker d).cuts
