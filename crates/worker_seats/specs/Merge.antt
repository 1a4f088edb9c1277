-- The outputs of all workers, merged in the order of the inputs.
use Rattle.std.specs.Prelude.{◌≡◌, ℕ, ◌<◌, List, ◌++◌, length, slice_index_or, Option}
use Rattle.std.specs.List.{All, AllZip}
use Rattle.outside_core.specs.Told.{append_told}
use Rattle.replay_meaning.specs.Frame.{Input}
use Rattle.replay_meaning.specs.OutFrame.{Output, IsOutput, output_spelling, outputs_spelling}
use Rattle.worker_seats.specs.Gather.{IsPartWritten}
use Rattle.worker_seats.specs.Workers.{HasSameWorker, inputs_of, outputs_of}

-- the octets are outputs for the inputs, in order, and each part is those of the worker at its place
pub record AreMerged (parts : List (List ℕ)) (inputs : List Input) (octets : List ℕ) : Type 0 where
  pub outputs : List Output
  pub written : octets ≡ outputs_spelling outputs
  pub valid : All IsOutput outputs
  pub same : AllZip HasSameWorker inputs outputs
  pub each :
      (worker : ℕ) (d : List ℕ) → worker < length parts
      → slice_index_or parts worker d ≡ outputs_spelling (outputs_of worker outputs)

-- there are such octets
abbrev pub CanBeMerged : List (List ℕ) → List Input → Type 0
CanBeMerged parts inputs = (octets : List ℕ) × AreMerged parts inputs octets

-- the sink has got them all
pub record AreWritten (parts : List (List ℕ)) (inputs : List Input) (before after : Option (List ℕ)) : Type 0 where
  pub octets : List ℕ
  pub merged : AreMerged parts inputs octets
  pub written : after ≡ append_told before octets

-- or a strict prefix of them
pub record AreWrittenInPart (parts : List (List ℕ)) (inputs : List Input) (before after : Option (List ℕ)) : Type 0 where
  pub octets : List ℕ
  pub merged : AreMerged parts inputs octets
  pub part : IsPartWritten octets before after

-- ---- no public clause cites what follows

-- an output frame stands at the front
pub record BeginsWithFrame (octets : List ℕ) : Type 0 where
  pub output : Output
  pub rest : List ℕ
  pub valid : IsOutput output
  pub is : octets ≡ output_spelling output ++ rest

-- the octets are outputs of a worker, one for each of its inputs
pub record AreOutputsOf (worker : ℕ) (inputs : List Input) (octets : List ℕ) : Type 0 where
  pub outputs : List Output
  pub written : octets ≡ outputs_spelling outputs
  pub valid : All IsOutput outputs
  pub own : All (λ output. output.worker ≡ worker) outputs
  pub many : length outputs ≡ length (inputs_of worker inputs)
