-- The octets of a recorded run: those of its input, and those of its output.
use Rattle.std.specs.Prelude.{◌≡◌, ℕ, List}
use Rattle.std.specs.List.{All}
use Rattle.replay_meaning.specs.Frame.{Input, IsInput, inputs_spelling}
use Rattle.replay_meaning.specs.OutFrame.{Output, IsOutput, outputs_spelling}

-- the octets are those of these input frames, of whatever workers
pub record AreInputs (octets : List ℕ) (inputs : List Input) : Type 0 where
  pub spelled : octets ≡ inputs_spelling inputs
  pub valid : All IsInput inputs

-- the octets are those of these output frames
pub record AreOutputs (octets : List ℕ) (outputs : List Output) : Type 0 where
  pub spelled : octets ≡ outputs_spelling outputs
  pub valid : All IsOutput outputs

-- they are those of some
abbrev pub SpellInputs : List ℕ → Type 0
SpellInputs octets = (inputs : List Input) × AreInputs octets inputs

abbrev pub SpellOutputs : List ℕ → Type 0
SpellOutputs octets = (outputs : List Output) × AreOutputs octets outputs
