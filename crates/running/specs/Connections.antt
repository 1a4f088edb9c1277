-- What a run says by its status of the connections that it served.
use Rattle.std.specs.Prelude.{◌≡◌, ℕ, ◌⊎◌, List, [], length, Option, IfSome}
use Rattle.denial_records.specs.declared.batch.Batch.{Batch}
use Rattle.outside_core.specs.Told.{prepend_told}
use Rattle.replay_meaning.specs.Frame.{Input}
use Rattle.replay_meaning.specs.OutFrame.{Output}
use Rattle.replay_meaning.specs.Fits.{Fits}
use Rattle.replay_meaning.specs.Replay.{SpellsFrames}
use Rattle.reply_core.specs.Answered.{reply_in}
use Rattle.gateway.specs.Connection.{Connection}
use Rattle.stream_server.specs.Served.{AreAllServed, CameBack, EndsEarly}
use Rattle.stream_server.specs.declared.connect_fault.ConnectFault.TheVariants.{Gateway}
use Rattle.running.specs.Run.{IsRefused, IsShort}
use Rattle.running.specs.declared.status.Status.{Status}
use Rattle.running.specs.declared.status.Status.TheVariants.{Good, ReadFault, OutOfMemory, GatewayFault}

-- connections were served, whether or not the gateway failed
abbrev pub IsOfConnections : Status → Type 0
IsOfConnections status = (status ≡ Good) ⊎ (status ≡ GatewayFault)

-- or the input couldn't be read or is refused, or there was no memory
abbrev pub IsOfTcp : Status → Type 0
IsOfTcp status = IsOfConnections status ⊎ (status ≡ ReadFault) ⊎ IsRefused status ⊎ (status ≡ OutOfMemory)

-- the one worker's outputs of the frames place these batches
pub record ArePlacedBy (inputs : List Input) (placed : List Batch) : Type 0 where
  pub outputs : List Output
  pub fits : Fits reply_in inputs 1 placed outputs

-- what the source gave up to its end is no longer than the longest input, and spells frames for one worker, which place these
pub record HasLoaded (left rest : Option (List ℕ)) (placed : List Batch) : Type 0 where
  pub input : List ℕ
  pub given : left ≡ prepend_told input rest
  pub end : IfSome rest (λ more. more ≡ [])
  pub short : IsShort input
  pub inputs : List Input
  pub frames : SpellsFrames 1 input inputs
  pub by : ArePlacedBy inputs placed

-- The frames' batches were placed first. Then each connection was answered from the version that all of them make, and no other
pub record HasServed (count : ℕ) (moment : Option ℕ) (left rest : Option (List ℕ)) (told told' : Option (List Connection)) : Type 0 where
  pub placed : List Batch
  pub loaded : HasLoaded left rest placed
  pub came : CameBack told told' (AreAllServed count moment (length placed) placed)

-- So were those that came back before a call of `listen` or `accept` failed; or all, and calls of one have failed
pub record HasServedInPart (count : ℕ) (moment : Option ℕ) (left rest : Option (List ℕ)) (told told' : Option (List Connection)) (failures failures' faults faults' : ℕ) : Type 0 where
  pub placed : List Batch
  pub loaded : HasLoaded left rest placed
  pub early : EndsEarly count moment (length placed) placed told told' failures failures' faults faults' Gateway

-- ---- no public clause cites what follows

-- the frames' batches were placed, and then all connections served
pub record HasServedAfter (inputs : List Input) (count : ℕ) (moment : Option ℕ) (told told' : Option (List Connection)) : Type 0 where
  pub placed : List Batch
  pub by : ArePlacedBy inputs placed
  pub came : CameBack told told' (AreAllServed count moment (length placed) placed)

-- or not all of them, or calls of one have failed
pub record HasServedPartAfter (inputs : List Input) (count : ℕ) (moment : Option ℕ) (told told' : Option (List Connection)) (failures failures' faults faults' : ℕ) : Type 0 where
  pub placed : List Batch
  pub by : ArePlacedBy inputs placed
  pub early : EndsEarly count moment (length placed) placed told told' failures failures' faults faults' Gateway
