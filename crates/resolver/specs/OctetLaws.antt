-- Octets have one outcome, and a store answers as what is held does.
use Rattle.std.specs.Prelude.{◌≡◌, ℕ, List}
use Rattle.dnswire.specs.declared.question.Question.{Question}
use Rattle.denial_records.specs.declared.batch.Batch.{Batch}
use Rattle.cache_meaning.specs.Held.{Held, held_of}
use Rattle.held_laws.specs.KeyOrder.{kept_of}
use Rattle.intake.specs.Batch.{IsFault}
use Rattle.intake.specs.declared.intake_fault.IntakeFault.{IntakeFault}
use Rattle.resolver.specs.Answering.{reply_by}
use Rattle.resolver.specs.Inserted.{IsInserted}
use Rattle.resolver.specs.Queried.{IsQueried}
use Rattle.resolver.specs.declared.answering.Answering.{Answering}
use Rattle.resolver.specs.declared.counts.Counts.{Counts}
use Rattle.resolver.specs.declared.query_outcome.QueryOutcome.{QueryOutcome}

abbrev pub QueriesHaveOneOutcome : Type 0
QueriesHaveOneOutcome =
    (answering : Answering) (held : Held) (query : List ℕ) (now : ℕ) (one other : QueryOutcome) (octets octets' : List ℕ)
    → IsQueried answering held query now one octets → IsQueried answering held query now other octets'
    → (one ≡ other) × (octets ≡ octets')

-- two next states are one, two faults are one, and there aren't both
pub record InsertsHaveOneOutcome : Type 0 where
  pub states :
      (held : Held) (octets : List ℕ) (now : ℕ) (one other : Held) (counts counts' : Counts)
      → IsInserted held octets now one counts → IsInserted held octets now other counts'
      → (one ≡ other) × (counts ≡ counts')
  pub faults :
      (octets : List ℕ) (now : ℕ) (one other : IntakeFault)
      → IsFault octets now one → IsFault octets now other → one ≡ other
  pub apart :
      (held : Held) (octets : List ℕ) (now : ℕ) (after : Held) (counts : Counts) (fault : IntakeFault)
      → IsInserted held octets now after counts → IsFault octets now fault → ⊥

-- what a store keeps of batches, in the order of keys, gives each reply that is given by what is held after them
abbrev pub StoresReplyAsHeld : Type 0
StoresReplyAsHeld =
    (answering : Answering) (journal : List Batch) (question : Question) (now : ℕ)
    → reply_by answering (kept_of journal) question now ≡ reply_by answering (held_of journal) question now
