-- A verdict that shows a proof shows no other, and what is written of it is the reply of the held records.
use Rattle.std.proofs.Common.{◌≡◌, ◌≤◌, ℕ, List, [], ◌∷◌, ◌++◌, length, slice_get, Option, Some, None, refl, sym, ap, ◌∙◌, arith}
use Rattle.std.specs.Prelude.{IsSome}
use Rattle.std.specs.Option.{option_map, option_to_list}
use Rattle.std.proofs.lemmas.Bool.{false≢true}
use Rattle.dnswire.specs.declared.question.Question.{Question}
use Rattle.denial_records.specs.Proof.{Proof, Shows}
use Rattle.denial_records.specs.declared.verdict.Verdict.{Verdict}
use Rattle.cache_meaning.specs.Held.{Held}
use Rattle.cache_meaning.specs.Verdict.{IsVerdictOf}
use Rattle.reply_core.specs.Answered.{proof_in, proof_octets, reply_in}
use Rattle.reply_core.specs.Reply.{reply_octets}
use Rattle.reply_core.specs.Shown.{shown_by}

-- a short list is its elements
three : {T : Type 0} (xs : List T) → length xs ≤ 3
    → option_to_list (slice_get xs 0) ++ option_to_list (slice_get xs 1) ++ option_to_list (slice_get xs 2) ≡ xs
three [] few = refl
three (x ∷ []) few = refl
three (x ∷ y ∷ []) few = refl
three (x ∷ y ∷ z ∷ []) few = refl
three (x ∷ y ∷ z ∷ w ∷ more) few = absurd (omega (arith, few))

pub shown_is : (verdict : Verdict) (proof : Proof) → Shows verdict proof → shown_by verdict ≡ proof
shown_is verdict proof shows =
    let denials =
    (λ i. option_to_list (shows.first i) ++ option_to_list (shows.second i) ++ option_to_list (shows.third i))
    ∙ three proof.denials shows.few
    in
    λ i. record { kind = shows.kind i; answer = shows.answer i; soa = shows.soa i; denials = denials i }

-- the octets of a proof are those of a verdict that shows it
pub written_as : (question : Question) (now : ℕ) (found : Option Proof) (verdict : Verdict) → IsVerdictOf now found verdict → IsSome found → option_map (proof_octets question now) found ≡ Some (reply_octets question (shown_by verdict) verdict.ttl)
written_as question now None verdict told some = absurd (false≢true some)
written_as question now (Some proof) verdict told some =
    ap Some (sym (λ i. reply_octets question (shown_is verdict proof told.shows i) (told.ttl_is i)))

pub verdict_is_reply : (held : Held) (question : Question) (now : ℕ) (verdict : Verdict) → IsVerdictOf now (proof_in held question now) verdict → IsSome (proof_in held question now) → reply_in held question now ≡ Some (reply_octets question (shown_by verdict) verdict.ttl)
verdict_is_reply held question now = written_as question now (proof_in held question now)
