-- By what the workers answer queries.
use Rattle.std.specs.Prelude.{◌≡◌, ℕ, List, length, Some, None}
use Rattle.dnswire.specs.declared.question.Question.{Question}
use Rattle.denial_records.specs.declared.batch.Batch.{Batch}
use Rattle.cache_meaning.specs.Held.{held_of}
use Rattle.resolver.specs.declared.outcome.Outcome.{Outcome}
use Rattle.resolver.specs.declared.outcome.Outcome.TheVariants.{Answered, Forward}
use Rattle.replay_meaning.specs.Fits.{Rule}
use Rattle.resolver.specs.Answering.{reply_by}
use Rattle.resolver.specs.declared.answering.Answering.{Answering}

-- by what is proved of the question itself, or by a walk
abbrev pub rule_of : Answering → Rule
rule_of answering = reply_by answering

-- ---- no public clause cites what follows

-- the outcome names the version by the number of its batches; the octets are the reply that the rule gives there, if it gives one
abbrev pub IsOutcomeBy : Rule → List Batch → Question → ℕ → Outcome → List ℕ → Type 0
IsOutcomeBy rule journal question now (Answered version) octets =
    (version ≡ length journal) × (rule (held_of journal) question now ≡ Some octets)
IsOutcomeBy rule journal question now (Forward version) octets =
    (version ≡ length journal) × (rule (held_of journal) question now ≡ None)
