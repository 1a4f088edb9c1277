-- The reply that held records give: the octets of their proof.
use Rattle.std.specs.Prelude.{ℕ, List, Option}
use Rattle.std.specs.Option.{option_map}
use Rattle.dnswire.specs.declared.question.Question.{Question}
use Rattle.denial_records.specs.Proof.{Proof}
use Rattle.cache_meaning.specs.Held.{Held}
use Rattle.cache_meaning.specs.Prove.{outcome_of}
use Rattle.cache_meaning.specs.Ttl.{ttl_of}
use Rattle.reply_core.specs.Reply.{reply_octets}

-- the reply to the question that a proof gives at a moment, with the TTL that it then has
abbrev pub proof_octets : Question → ℕ → Proof → List ℕ
proof_octets question now proof = reply_octets question proof (ttl_of now proof)

-- the proof that held records have for the question at the moment
abbrev pub proof_in : Held → Question → ℕ → Option Proof
proof_in held question now = outcome_of held now question.name question.qtype question.qclass

-- the reply, or none where the query is forwarded
abbrev pub reply_in : Held → Question → ℕ → Option (List ℕ)
reply_in held question now = option_map (proof_octets question now) (proof_in held question now)
