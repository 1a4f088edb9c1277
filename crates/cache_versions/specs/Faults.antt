-- Why a state takes no batch.
use Rattle.std.specs.Prelude.{◌≡◌, Option, Some}
use Rattle.cache_versions.specs.declared.state.StepFault.{StepFault}
use Rattle.cache_versions.specs.declared.state.StepFault.TheVariants.{Refused, OutOfMemory}

module _ {S B F : Type 0} (refusal : S → B → Option F) (state : S) (batch : B) where
  -- the state refuses the batch with this fault; or memory ran out
  abbrev pub RefusedBy : StepFault F → Type 0
  RefusedBy (Refused f) = refusal state batch ≡ Some f
  RefusedBy OutOfMemory = Unit {0}
