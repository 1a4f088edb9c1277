-- The batches that intake takes from the messages of a made zone.
use Rattle.std.specs.Prelude.{◌≡◌, ℕ, List, Ok}
use Rattle.std.specs.List.{Contains}
use Rattle.denial_records.specs.declared.batch.Batch.{Batch}
use Rattle.intake.specs.Batch.{Gives}
use Rattle.intake.specs.declared.taken.Taken.{Taken}
use Rattle.zone_maker.specs.Messages.{messages_of}

-- the batch is what intake takes from one of the zone's messages, at some moment
pub record IsMadeBatch (seed names : ℕ) (batch : Batch) : Type 0 where
  pub message : List ℕ
  pub among : Contains (messages_of seed names) message
  pub now : ℕ
  pub taken : Taken
  pub gives : Gives message now (Ok taken)
  pub batch_is : batch ≡ taken.batch
