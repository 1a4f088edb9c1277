-- What becomes of a query's octets, by the records held.
use Rattle.std.specs.Prelude.{◌≡◌, ℕ, List, [], Option, Some, None, IsSome, unwrap_or}
use Rattle.dnswire.specs.Query.{IsReadAs}
use Rattle.dnswire.specs.declared.question.Question.{Question}
use Rattle.dnswire.specs.declared.query_read.QueryRead.{QueryRead}
use Rattle.dnswire.specs.declared.query_read.QueryRead.TheVariants as reads
use Rattle.denial_records.specs.Proof.{Proof}
use Rattle.cache_meaning.specs.Held.{Held}
use Rattle.soundness.specs.Sound.{IsSound}
use Rattle.reply_core.specs.Answered.{proof_in, proof_octets}
use Rattle.resolver.specs.Walk.{Walk}
use Rattle.resolver.specs.SoundWalk.{IsSoundWalk}
use Rattle.resolver.specs.WalkReply.{octets_at, walk_in}
use Rattle.resolver.specs.declared.rule.Rule.{Rule}
use Rattle.resolver.specs.Answering.{reply_by}
use Rattle.resolver.specs.QueryStep.{fault_octets}
use Rattle.resolver.specs.declared.answering.Answering.{Answering}
use Rattle.resolver.specs.declared.answering.Answering.TheVariants.{ByProof, ByWalk}
use Rattle.resolver.specs.declared.query_outcome.QueryOutcome.{QueryOutcome}
use Rattle.resolver.specs.declared.query_outcome.QueryOutcome.TheVariants.{Answered, Forward, Dropped, Error}

-- ---- the outcome

-- of a question that has this reply, or none
abbrev pub outcome_with : Option (List ℕ) → QueryOutcome
outcome_with None = Forward
outcome_with (Some reply) = Answered

-- of what is read: no reply, a fault that is told, or what becomes of a question
abbrev pub outcome_by : Answering → Held → ℕ → QueryRead → QueryOutcome
outcome_by answering held now reads.Dropped = Dropped
outcome_by answering held now (reads.NotImp head) = Error
outcome_by answering held now (reads.FormErr head) = Error
outcome_by answering held now (reads.BadVers question) = Error
outcome_by answering held now (reads.Query question) = outcome_with (reply_by answering held question now)

-- the reply to what is read, if it gets one: what tells its fault, or the reply to the question
abbrev pub reply_for : Answering → Held → ℕ → QueryRead → Option (List ℕ)
reply_for answering held now reads.Dropped = None
reply_for answering held now (reads.NotImp head) = fault_octets (reads.NotImp head)
reply_for answering held now (reads.FormErr head) = fault_octets (reads.FormErr head)
reply_for answering held now (reads.BadVers question) = fault_octets (reads.BadVers question)
reply_for answering held now (reads.Query question) = reply_by answering held question now

-- the query's octets have this outcome, and this reply, which is empty where there is none
pub record IsQueried (answering : Answering) (held : Held) (query : List ℕ) (now : ℕ) (outcome : QueryOutcome) (octets : List ℕ) : Type 0 where
  pub read : QueryRead
  pub reads : IsReadAs query read
  pub outcome_is : outcome ≡ outcome_by answering held now read
  pub octets_are : octets ≡ unwrap_or (reply_for answering held now read) []

-- ---- what an answer means

-- the octets ask a question to which the records held give a reply
pub record HasAnswer (answering : Answering) (held : Held) (query : List ℕ) (now : ℕ) : Type 0 where
  pub question : Question
  pub asks : IsReadAs query (reads.Query question)
  pub given : IsSome (reply_by answering held question now)

-- the reply is the octets of the proof that the records have for the question, and the proof is sound
pub record IsProvedReply (held : Held) (query : List ℕ) (now : ℕ) (octets : List ℕ) : Type 0 where
  pub question : Question
  pub asks : IsReadAs query (reads.Query question)
  pub proof : Proof
  pub proves : proof_in held question now ≡ Some proof
  pub written : octets ≡ proof_octets question now proof
  pub sound : IsSound question.name question.qtype proof

-- the reply is the octets of the walk that the records have for the question, and the walk is sound
pub record IsWalkedReply (rule : Rule) (held : Held) (query : List ℕ) (now : ℕ) (octets : List ℕ) : Type 0 where
  pub question : Question
  pub asks : IsReadAs query (reads.Query question)
  pub walk : Walk
  pub walks : walk_in rule held question now ≡ Some walk
  pub written : octets ≡ octets_at question now walk
  pub sound : IsSoundWalk question.qtype question.name walk

-- by either
abbrev pub IsSoundReply : Answering → Held → List ℕ → ℕ → List ℕ → Type 0
IsSoundReply ByProof held query now octets = IsProvedReply held query now octets
IsSoundReply (ByWalk rule) held query now octets = IsWalkedReply rule held query now octets
