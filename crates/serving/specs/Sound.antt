-- What a reply of the cache means for the zones: it says what every zone says of which the records that it used are true.
use Rattle.std.specs.Prelude.{◌≡◌, ℕ, List, Some}
use Rattle.dnswire.specs.Query.{IsReadAs}
use Rattle.dnswire.specs.declared.question.Question.{Question}
use Rattle.dnswire.specs.declared.query_read.QueryRead.TheVariants.{Query}
use Rattle.denial_records.specs.Proof.{Proof}
use Rattle.denial_records.specs.declared.batch.Batch.{Batch}
use Rattle.cache_meaning.specs.Held.{held_of}
use Rattle.soundness.specs.Sound.{IsSound}
use Rattle.reply_core.specs.Answered.{proof_in, proof_octets}
use Rattle.serving.specs.declared.deed.Deed.TheVariants.{ToClient}
use Rattle.serving.specs.declared.why.Why.TheVariants.{Answered}
use Rattle.serving.specs.Done.{Done}

-- the octets are those of the proof that the records of these batches have for the question that was received, and the proof is
-- sound
pub record IsProved (seen : List Batch) (now : ℕ) (received octets : List ℕ) : Type 0 where
  pub question : Question
  pub asks : IsReadAs received (Query question)
  pub proof : Proof
  pub proves : proof_in (held_of seen) question now ≡ Some proof
  pub written : octets ≡ proof_octets question now proof
  pub sound : IsSound question.name question.qtype proof

-- so it is for every reply that the records prove
abbrev pub IsSoundDone : List Batch → ℕ → List ℕ → Done → Type 0
IsSoundDone seen now received done =
    (client version : ℕ) → done.deed ≡ ToClient client (Answered version)
    → IsProved seen now received done.octets
