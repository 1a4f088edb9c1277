-- The outcome of a query at a version, of which the state is kept in the order of keys.
use Rattle.std.proofs.Common.{◌≡◌, ◌∙◌, ℕ, List, Option, sym, ap, subst}
use Rattle.std.specs.Prelude.{IfSome, fold}
use Rattle.std.specs.Option.{option_map}
use Rattle.dnswire.specs.declared.question.Question.{Question}
use Rattle.denial_records.specs.Proof.{Proof}
use Rattle.denial_records.specs.declared.batch.Batch.{Batch}
use Rattle.cache_meaning.specs.Held.{Held, nothing_held, held_of}
use Rattle.soundness.specs.Sound.{IsSound}
use Rattle.held_laws.specs.KeyOrder.{kept_after, kept_of}
use Rattle.held_laws.proofs.AnswerLemmas.{same_lookups, outcome_alike}
use Rattle.held_laws.proofs.OrderedLemmas.{all_alike}
use Rattle.reply_core.specs.Answered.{proof_in, proof_octets, reply_in}
use Rattle.resolver.specs.Replies.{IsSoundAt}

-- what is kept in the order of keys has the proof that what is held has
as_held : (journal : List Batch) (question : Question) (now : ℕ) → proof_in (kept_of journal) question now ≡ proof_in (held_of journal) question now
as_held journal question now =
    let alike = all_alike journal in
    sym (outcome_alike _ _ (same_lookups _ _ alike.apart alike.order) now question.name question.qtype question.qclass)

-- the state that the batches make of nothing
pub is_kept : (journal : List Batch) (state opening : Held) → state ≡ fold kept_after opening journal → opening ≡ nothing_held → state ≡ kept_of journal
is_kept journal state opening made empty = made ∙ ap (λ (h : Held). fold kept_after h journal) empty

pub reply_as_held : (journal : List Batch) (held : Held) (question : Question) (now : ℕ) → held ≡ kept_of journal → reply_in held question now ≡ reply_in (held_of journal) question now
reply_as_held journal held question now kept =
    ap (option_map (proof_octets question now)) (ap (λ (h : Held). proof_in h question now) kept ∙ as_held journal question now)

pub sound_as_held : (journal : List Batch) (held : Held) (question : Question) (now : ℕ) → held ≡ kept_of journal → IfSome (proof_in held question now) (IsSound question.name question.qtype) → IsSoundAt journal question now
sound_as_held journal held question now kept =
    subst (λ (found : Option Proof). IfSome found (IsSound question.name question.qtype)) (ap (λ (h : Held). proof_in h question now) kept ∙ as_held journal question now)
