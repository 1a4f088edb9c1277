-- What a query's code says of its reply.
use Rattle.std.proofs.Common.{◌≡◌, inl, inr, ℕ, ◌≤◌, List, length, take, drop, Option, Some, refl, sym, ◌∙◌, ap, subst, arith}
use Rattle.std.specs.Prelude.{ℤ, ◌↔◌}
use Rattle.std.proofs.Math.Seq.{take-append_seam}
use Rattle.cache_meaning.specs.Held.{Held}
use Rattle.reply_core.specs.declared.draft.TheConstants.{MAX_REPLY}
use Rattle.resolver.specs.Queried.{HasAnswer, IsProvedReply}
use Rattle.resolver.specs.declared.answering.Answering.TheVariants.{ByProof}
use Rattle.resolver.specs.declared.query_outcome.QueryOutcome.{QueryOutcome}
use Rattle.resolver.specs.declared.query_outcome.QueryOutcome.TheVariants.{Answered, Forward, Dropped, Error}
use Rattle.resolver.proofs.QueryLemmas.{has_answer, is_answered, sound_reply}
use Rattle.dnsreplay_c.specs.Codes.{code_of_outcome}
use Rattle.dnsreplay_c.specs.Calls.{HasReplied, IsQuery, IsWritten}
use Rattle.dnsreplay_c.specs.declared.code.TheConstants.{DONE, NO_ROOM}

-- ---- codes

answered_code : (outcome : QueryOutcome) → code_of_outcome outcome ≡ DONE → outcome ≡ Answered
answered_code Answered is = refl
answered_code Forward is = absurd cc
answered_code Dropped is = absurd cc
answered_code Error is = absurd cc

not_done : NO_ROOM ≡ DONE → ⊥
not_done is = absurd cc

-- ---- replies

-- a reply that is written is of its outcome
code_is : (held : Held) (query : List ℕ) (now : ℕ) (code : ℤ) (room room' : List ℕ) (written written' : ℕ) (replied : HasReplied held query now code room room' written written') → MAX_REPLY ≤ length room → code ≡ code_of_outcome replied.outcome
code_is held query now code room room' written written' replied enough = elim replied.told [
  | inl fits ↦ fits.0
  | inr none ↦ (let small = replied.small in let larger = none.1.larger in absurd (omega (arith, small, larger, enough)))
]

exactly : (held : Held) (query : List ℕ) (now : ℕ) (code : ℤ) (room room' : List ℕ) (written written' : ℕ) → HasReplied held query now code room room' written written' → MAX_REPLY ≤ length room → (code ≡ DONE) ↔ HasAnswer ByProof held query now
exactly held query now code room room' written written' replied enough =
    let told = code_is held query now code room room' written written' replied enough in (
      λ done. has_answer ByProof held query now replied.outcome replied.octets replied.queried (answered_code replied.outcome (sym told ∙ done)),
      λ has. told ∙ ap code_of_outcome (is_answered ByProof held query now replied.outcome replied.octets replied.queried has),
    )

front_is : (octets room room' : List ℕ) (written' : ℕ) → IsWritten octets room room' written' → take written' room' ≡ octets
front_is octets room room' written' is =
    (λ i. take (is.number i) (is.front i)) ∙ take-append_seam octets (drop (length octets) room)

soundly : (held : Held) (query : List ℕ) (now : ℕ) (code : ℤ) (room room' : List ℕ) (written written' : ℕ) → HasReplied held query now code room room' written written' → code ≡ DONE → IsProvedReply held query now (take written' room')
soundly held query now code room room' written written' replied done = elim replied.told [
  | inl fits ↦ subst (IsProvedReply held query now) (sym (front_is replied.octets room room' written' fits.1)) (sound_reply ByProof held query now replied.outcome replied.octets replied.queried (answered_code replied.outcome (sym fits.0 ∙ done)))
  | inr none ↦ absurd (not_done (sym none.0 ∙ done))
]

-- ---- of an opened handle

pub query_exact : (state : Option Held) (held : Held) (query : List ℕ) (now : ℕ) (code : ℤ) (room room' : List ℕ) (written written' : ℕ) → IsQuery state query now code room room' written written' → state ≡ Some held → MAX_REPLY ≤ length room → (code ≡ DONE) ↔ HasAnswer ByProof held query now
query_exact state held query now code room room' written written' is opened = exactly held query now code room room' written written' (subst (λ (s : Option Held). IsQuery s query now code room room' written written') opened is)

pub query_sound : (state : Option Held) (held : Held) (query : List ℕ) (now : ℕ) (code : ℤ) (room room' : List ℕ) (written written' : ℕ) → IsQuery state query now code room room' written written' → state ≡ Some held → code ≡ DONE → IsProvedReply held query now (take written' room')
query_sound state held query now code room room' written written' is opened = soundly held query now code room room' written written' (subst (λ (s : Option Held). IsQuery s query now code room room' written written') opened is)
