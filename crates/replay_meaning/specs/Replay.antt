-- What a replay is, of octets for so many workers.
use Rattle.std.specs.Prelude.{◌≡◌, ℕ, ◌<◌, List}
use Rattle.std.specs.List.{All, AllZip}
use Rattle.denial_records.specs.declared.batch.Batch.{Batch}
use Rattle.replay_meaning.specs.Frame.{Input, IsInput, inputs_spelling}
use Rattle.replay_meaning.specs.OutFrame.{Output, IsOutput, outputs_spelling}
use Rattle.replay_meaning.specs.Fits.{Fits}
use Rattle.reply_core.specs.Answered.{reply_in}
use Rattle.replay_meaning.specs.Sound.{IsSoundReply}

-- the octets spell these frames, which are for so many workers
pub record SpellsFrames (workers : ℕ) (octets : List ℕ) (inputs : List Input) : Type 0 where
  pub spelled : octets ≡ inputs_spelling inputs
  pub valid : All IsInput inputs
  pub below : All (λ input. input.worker < workers) inputs

-- they spell some
abbrev pub AreFrames : ℕ → List ℕ → Type 0
AreFrames workers octets = (inputs : List Input) × SpellsFrames workers octets inputs

-- The output spells frames that fit those of the input, and each reply among them says what every zone says of which the
-- records that it used are true.
pub record IsReplay (workers : ℕ) (octets output : List ℕ) : Type 0 where
  pub inputs : List Input
  pub frames : SpellsFrames workers octets inputs
  pub outputs : List Output
  pub written : output ≡ outputs_spelling outputs
  pub valid : All IsOutput outputs
  pub placed : List Batch
  pub fits : Fits reply_in inputs workers placed outputs
  pub sound : AllZip (IsSoundReply placed) inputs outputs
