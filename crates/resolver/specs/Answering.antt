-- The reply that held records give to a question, by either way of answering.
use Rattle.std.specs.Prelude.{ℕ, List, Option, IfSome}
use Rattle.dnswire.specs.declared.question.Question.{Question}
use Rattle.cache_meaning.specs.Held.{Held}
use Rattle.soundness.specs.Sound.{IsSound}
use Rattle.reply_core.specs.Answered.{proof_in, reply_in}
use Rattle.resolver.specs.SoundWalk.{IsSoundWalk}
use Rattle.resolver.specs.WalkReply.{walk_in, walk_reply_in}
use Rattle.resolver.specs.declared.answering.Answering.{Answering}
use Rattle.resolver.specs.declared.answering.Answering.TheVariants.{ByProof, ByWalk}

-- that of what is proved of the question itself, or that of a walk; none where the query is forwarded
abbrev pub reply_by : Answering → Held → Question → ℕ → Option (List ℕ)
reply_by ByProof = reply_in
reply_by (ByWalk rule) = walk_reply_in rule

-- the proof, or the walk, is sound where there is one: each zone of which its records are true says so too
abbrev pub IsSoundBy : Answering → Held → Question → ℕ → Type 0
IsSoundBy ByProof held question now = IfSome (proof_in held question now) (IsSound question.name question.qtype)
IsSoundBy (ByWalk rule) held question now = IfSome (walk_in rule held question now) (IsSoundWalk question.qtype question.name)
