-- What an upstream answer's octets make of the records held.
use Rattle.std.specs.Prelude.{◌≡◌, ℕ, List, length}
use Rattle.cache_meaning.specs.Held.{Held}
use Rattle.held_laws.specs.KeyOrder.{kept_after}
use Rattle.intake.specs.Batch.{IsTaken}
use Rattle.intake.specs.declared.taken.Taken.{Taken}
use Rattle.resolver.specs.declared.counts.Counts.{Counts}

abbrev pub counts_of : Taken → Counts
counts_of taken = record { stored = length taken.batch.records; skipped = taken.skipped }

-- the octets bring a batch at the moment, and this is what is held after it, and how much it stored
pub record IsInserted (held : Held) (octets : List ℕ) (now : ℕ) (after : Held) (counts : Counts) : Type 0 where
  pub taken : Taken
  pub takes : IsTaken octets now taken
  pub after_is : after ≡ kept_after held taken.batch
  pub counts_are : counts ≡ counts_of taken
