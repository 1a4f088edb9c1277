-- What becomes of a query, by the batches of the version that it reads.
use Rattle.std.specs.Prelude.{◌≡◌, ℕ, List, [], length, Some, None, IfSome}
use Rattle.dnswire.specs.declared.question.Question.{Question}
use Rattle.denial_records.specs.declared.batch.Batch.{Batch}
use Rattle.cache_meaning.specs.Held.{held_of}
use Rattle.soundness.specs.Sound.{IsSound}
use Rattle.reply_core.specs.Answered.{proof_in, reply_in}
use Rattle.resolver.specs.declared.outcome.Outcome.{Outcome}
use Rattle.resolver.specs.declared.outcome.Outcome.TheVariants.{Answered, Forward}

-- the outcome names the version by the number of its batches. Where what they hold has a proof, the
-- octets are the reply; else the query is forwarded, and there are none
abbrev pub IsOutcome : List Batch → Question → ℕ → Outcome → List ℕ → Type 0
IsOutcome journal question now (Answered version) octets =
    (version ≡ length journal) × (reply_in (held_of journal) question now ≡ Some octets)
IsOutcome journal question now (Forward version) octets =
    (version ≡ length journal) × (reply_in (held_of journal) question now ≡ None) × (octets ≡ [])

-- the proof, where there is one, is sound: every zone of which its records are true says so too
abbrev pub IsSoundAt : List Batch → Question → ℕ → Type 0
IsSoundAt journal question now =
    IfSome (proof_in (held_of journal) question now) (IsSound question.name question.qtype)
