-- What is written of a verdict on a stream is the reply of the batches.
use Rattle.std.proofs.Common.{◌≡◌, ◌∙◌, ℕ, List, Option, Some, None, sym, ap}
use Rattle.std.specs.Prelude.{IsSome}
use Rattle.std.specs.Option.{option_map}
use Rattle.std.proofs.lemmas.Bool.{false≢true}
use Rattle.dnswire.specs.declared.question.Question.{Question}
use Rattle.denial_records.specs.Proof.{Proof}
use Rattle.denial_records.specs.declared.batch.Batch.{Batch}
use Rattle.denial_records.specs.declared.verdict.Verdict.{Verdict}
use Rattle.cache_meaning.specs.Held.{Held, held_of}
use Rattle.cache_meaning.specs.Verdict.{IsVerdictOf}
use Rattle.held_laws.specs.KeyOrder.{kept_of}
use Rattle.held_laws.proofs.AnswerLemmas.{same_lookups, outcome_alike}
use Rattle.held_laws.proofs.OrderedLemmas.{all_alike}
use Rattle.reply_core.specs.Answered.{proof_in}
use Rattle.reply_core.specs.Reply.{long_octets}
use Rattle.reply_core.specs.Shown.{shown_by}
use Rattle.reply_core.proofs.ShownLemmas.{shown_is}
use Rattle.stream_server.specs.Turn.{long_proof_octets, long_reply_in}

-- the octets of a proof are those of a verdict that shows it
written_as : (question : Question) (now : ℕ) (found : Option Proof) (verdict : Verdict) → IsVerdictOf now found verdict → IsSome found → option_map (long_proof_octets question now) found ≡ Some (long_octets question (shown_by verdict) verdict.ttl)
written_as question now None verdict told some = absurd (false≢true some)
written_as question now (Some proof) verdict told some =
    ap Some (sym (λ i. long_octets question (shown_is verdict proof told.shows i) (told.ttl_is i)))

pub verdict_is_long_reply : (held : Held) (question : Question) (now : ℕ) (verdict : Verdict) → IsVerdictOf now (proof_in held question now) verdict → IsSome (proof_in held question now) → long_reply_in held question now ≡ Some (long_octets question (shown_by verdict) verdict.ttl)
verdict_is_long_reply held question now = written_as question now (proof_in held question now)

-- where nothing is proved, nothing is written
pub no_long_reply : (held : Held) (question : Question) (now : ℕ) → proof_in held question now ≡ None → long_reply_in held question now ≡ None
no_long_reply held question now none = ap (option_map (long_proof_octets question now)) none

-- what is kept in the order of keys has the reply that what is held has
pub long_reply_as_held : (journal : List Batch) (held : Held) (question : Question) (now : ℕ) → held ≡ kept_of journal → long_reply_in held question now ≡ long_reply_in (held_of journal) question now
long_reply_as_held journal held question now kept =
    let alike = all_alike journal in
    ap (option_map (long_proof_octets question now))
    (ap (λ (h : Held). proof_in h question now) kept
    ∙ sym (outcome_alike _ _ (same_lookups _ _ alike.apart alike.order) now question.name question.qtype question.qclass))
