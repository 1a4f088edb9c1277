-- A query's octets have one outcome, and an answer is one where the records held give it, and sound.
use Rattle.std.proofs.Common.{◌≡◌, ℕ, List, [], Option, Some, None, refl, sym, ◌∙◌, ap, subst}
use Rattle.std.specs.Prelude.{IsSome, unwrap_or}
use Rattle.std.specs.Option.{option_map}
use Rattle.std.proofs.lemmas.Bool.{false≢true}
use Rattle.std.proofs.lemmas.Option.{none-some, same_Some}
use Rattle.dnswire.specs.Query.{IsReadAs}
use Rattle.dnswire.specs.declared.question.Question.{Question}
use Rattle.dnswire.specs.declared.query_read.QueryRead.{QueryRead}
use Rattle.dnswire.specs.declared.query_read.QueryRead.TheVariants as reads
use Rattle.dnswire.proofs.QueryLemmas.{one_read}
use Rattle.denial_records.specs.Proof.{Proof}
use Rattle.cache_meaning.specs.Held.{Held}
use Rattle.soundness.proofs.QueryLemmas.{outcome_sound}
use Rattle.reply_core.specs.Answered.{proof_in, proof_octets}
use Rattle.resolver.specs.Walk.{Walk}
use Rattle.resolver.specs.WalkReply.{octets_at, walk_in}
use Rattle.resolver.specs.declared.rule.Rule.{Rule}
use Rattle.resolver.proofs.SoundLemmas.{walk_for_sound}
use Rattle.resolver.specs.Answering.{reply_by}
use Rattle.resolver.specs.QueryStep.{fault_octets}
use Rattle.resolver.specs.Queried.{HasAnswer, IsProvedReply, IsQueried, IsSoundReply, IsWalkedReply, outcome_by, outcome_with, reply_for}
use Rattle.resolver.specs.OctetLaws.{QueriesHaveOneOutcome}
use Rattle.resolver.specs.declared.answering.Answering.{Answering}
use Rattle.resolver.specs.declared.answering.Answering.TheVariants.{ByProof, ByWalk}
use Rattle.resolver.specs.declared.query_outcome.QueryOutcome.{QueryOutcome}
use Rattle.resolver.specs.declared.query_outcome.QueryOutcome.TheVariants.{Answered, Dropped, Error}

-- ---- one outcome

pub one_query : QueriesHaveOneOutcome
one_query answering held query now one other octets octets' is is' =
    let same = one_read query is.read is'.read is.reads is'.reads in (
      is.outcome_is ∙ ap (outcome_by answering held now) same ∙ sym is'.outcome_is,
      is.octets_are ∙ ap (λ (r : QueryRead). unwrap_or (reply_for answering held now r) []) same ∙ sym is'.octets_are,
    )

-- ---- a step leads to the outcome

pub dropped : (answering : Answering) (held : Held) (query : List ℕ) (now : ℕ) (read : QueryRead) (octets : List ℕ) → IsReadAs query read → read ≡ reads.Dropped → octets ≡ [] → IsQueried answering held query now Dropped octets
dropped answering held query now read octets is step none = record { read = reads.Dropped; reads = subst (IsReadAs query) step is; outcome_is = refl; octets_are = none }

pub told : (answering : Answering) (held : Held) (query : List ℕ) (now : ℕ) (read : QueryRead) (octets : List ℕ) → IsReadAs query read → fault_octets read ≡ Some octets → IsQueried answering held query now Error octets
told answering held query now reads.Dropped octets is step = absurd (none-some octets step)
told answering held query now (reads.NotImp head) octets is step = record { read = reads.NotImp head; reads = is; outcome_is = refl; octets_are = sym (ap (λ (o : Option (List ℕ)). unwrap_or o []) step) }
told answering held query now (reads.FormErr head) octets is step = record { read = reads.FormErr head; reads = is; outcome_is = refl; octets_are = sym (ap (λ (o : Option (List ℕ)). unwrap_or o []) step) }
told answering held query now (reads.BadVers question) octets is step = record { read = reads.BadVers question; reads = is; outcome_is = refl; octets_are = sym (ap (λ (o : Option (List ℕ)). unwrap_or o []) step) }
told answering held query now (reads.Query question) octets is step = absurd (none-some octets step)

pub asked : (answering : Answering) (held : Held) (query : List ℕ) (now : ℕ) (read : QueryRead) (question : Question) (found : Option (List ℕ)) (octets : List ℕ) → IsReadAs query read → read ≡ reads.Query question
    → reply_by answering held question now ≡ found → octets ≡ unwrap_or found [] → IsQueried answering held query now (outcome_with found) octets
asked answering held query now read question found octets is step reply are = record {
  read = reads.Query question;
  reads = subst (IsReadAs query) step is;
  outcome_is = ap outcome_with (sym reply);
  octets_are = are ∙ ap (λ (o : Option (List ℕ)). unwrap_or o []) (sym reply);
}

-- ---- an answer is the reply to a question

-- the octets ask a question that has this reply
pub record IsAnswer (answering : Answering) (held : Held) (query : List ℕ) (now : ℕ) (octets : List ℕ) : Type 0 where
  question : Question
  asks : IsReadAs query (reads.Query question)
  given : reply_by answering held question now ≡ Some octets

given_is : (found : Option (List ℕ)) (octets : List ℕ) → Answered ≡ outcome_with found → octets ≡ unwrap_or found [] → found ≡ Some octets
given_is None octets is are = absurd cc
given_is (Some reply) octets is are = ap Some (sym are)

answer_of : (answering : Answering) (held : Held) (query : List ℕ) (now : ℕ) (read : QueryRead) (octets : List ℕ) → IsReadAs query read
    → Answered ≡ outcome_by answering held now read → octets ≡ unwrap_or (reply_for answering held now read) [] → IsAnswer answering held query now octets
answer_of answering held query now reads.Dropped octets says is are = absurd cc
answer_of answering held query now (reads.NotImp head) octets says is are = absurd cc
answer_of answering held query now (reads.FormErr head) octets says is are = absurd cc
answer_of answering held query now (reads.BadVers question) octets says is are = absurd cc
answer_of answering held query now (reads.Query question) octets says is are = record {
  question = question;
  asks = says;
  given = given_is (reply_by answering held question now) octets is are;
}

answer_in : (answering : Answering) (held : Held) (query : List ℕ) (now : ℕ) (outcome : QueryOutcome) (octets : List ℕ) → IsQueried answering held query now outcome octets → outcome ≡ Answered → IsAnswer answering held query now octets
answer_in answering held query now outcome octets queried answered =
    answer_of answering held query now queried.read octets queried.reads (sym answered ∙ queried.outcome_is) queried.octets_are

-- ---- exactly where the records held give it

some_is : (found : Option (List ℕ)) (octets : List ℕ) → found ≡ Some octets → IsSome found
some_is None octets is = absurd (none-some octets is)
some_is (Some reply) octets is = refl

some_answered : (found : Option (List ℕ)) → IsSome found → outcome_with found ≡ Answered
some_answered None some = absurd (false≢true some)
some_answered (Some reply) some = refl

pub has_answer : (answering : Answering) (held : Held) (query : List ℕ) (now : ℕ) (outcome : QueryOutcome) (octets : List ℕ) → IsQueried answering held query now outcome octets → outcome ≡ Answered → HasAnswer answering held query now
has_answer answering held query now outcome octets queried answered =
    let answer = answer_in answering held query now outcome octets queried answered in
    record { question = answer.question; asks = answer.asks; given = some_is (reply_by answering held answer.question now) octets answer.given }

pub is_answered : (answering : Answering) (held : Held) (query : List ℕ) (now : ℕ) (outcome : QueryOutcome) (octets : List ℕ) → IsQueried answering held query now outcome octets → HasAnswer answering held query now → outcome ≡ Answered
is_answered answering held query now outcome octets queried has =
    let read = one_read query queried.read (reads.Query has.question) queried.reads has.asks in
    queried.outcome_is ∙ ap (outcome_by answering held now) read ∙ some_answered (reply_by answering held has.question now) has.given

-- ---- it is sound

proved : (held : Held) (query : List ℕ) (now : ℕ) (octets : List ℕ) (question : Question) (found : Option Proof) → IsReadAs query (reads.Query question)
    → proof_in held question now ≡ found → option_map (proof_octets question now) found ≡ Some octets → IsProvedReply held query now octets
proved held query now octets question None asks found is = absurd (none-some octets is)
proved held query now octets question (Some proof) asks found is = record {
  question = question;
  asks = asks;
  proof = proof;
  proves = found;
  written = sym (same_Some (proof_octets question now proof) octets is);
  sound = (outcome_sound held now question.name question.qtype question.qclass proof found).sound;
}

walked : (rule : Rule) (held : Held) (query : List ℕ) (now : ℕ) (octets : List ℕ) (question : Question) (found : Option Walk) → IsReadAs query (reads.Query question)
    → walk_in rule held question now ≡ found → option_map (octets_at question now) found ≡ Some octets → IsWalkedReply rule held query now octets
walked rule held query now octets question None asks found is = absurd (none-some octets is)
walked rule held query now octets question (Some walk) asks found is = record {
  question = question;
  asks = asks;
  walk = walk;
  walks = found;
  written = sym (same_Some (octets_at question now walk) octets is);
  sound = walk_for_sound (λ held now name qtype qclass proof proved. (outcome_sound held now name qtype qclass proof proved).sound) rule held now question.name question.qtype question.qclass walk found;
}

answer_sound : (answering : Answering) (held : Held) (query : List ℕ) (now : ℕ) (octets : List ℕ) → IsAnswer answering held query now octets → IsSoundReply answering held query now octets
answer_sound ByProof held query now octets answer = proved held query now octets answer.question (proof_in held answer.question now) answer.asks refl answer.given
answer_sound (ByWalk rule) held query now octets answer = walked rule held query now octets answer.question (walk_in rule held answer.question now) answer.asks refl answer.given

pub sound_reply : (answering : Answering) (held : Held) (query : List ℕ) (now : ℕ) (outcome : QueryOutcome) (octets : List ℕ) → IsQueried answering held query now outcome octets → outcome ≡ Answered → IsSoundReply answering held query now octets
sound_reply answering held query now outcome octets queried answered = answer_sound answering held query now octets (answer_in answering held query now outcome octets queried answered)
