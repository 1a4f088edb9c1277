-- What a reply means for the zones: it says what every zone says of which the records that it used are true.
use Rattle.std.specs.Prelude.{◌≡◌, List, take, Some}
use Rattle.dnswire.specs.Query.{IsReadAs}
use Rattle.dnswire.specs.declared.question.Question.{Question}
use Rattle.dnswire.specs.declared.query_read.QueryRead.TheVariants.{Query}
use Rattle.denial_records.specs.Proof.{Proof}
use Rattle.denial_records.specs.declared.batch.Batch.{Batch}
use Rattle.cache_meaning.specs.Held.{held_of}
use Rattle.soundness.specs.Sound.{IsSound}
use Rattle.reply_core.specs.Answered.{proof_in, proof_octets}
use Rattle.replay_meaning.specs.Frame.{Input}
use Rattle.replay_meaning.specs.OutFrame.{Output}
use Rattle.replay_meaning.specs.declared.out_frame.OutKind.TheVariants.{Reply}

-- the reply is the octets of the proof that the records held at its version have for the question, and the proof is sound
pub record IsProved (placed : List Batch) (input : Input) (output : Output) : Type 0 where
  pub question : Question
  pub asks : IsReadAs input.message (Query question)
  pub proof : Proof
  pub proves : proof_in (held_of (take output.version placed)) question input.now ≡ Some proof
  pub written : output.body ≡ proof_octets question input.now proof
  pub sound : IsSound question.name question.qtype proof

-- so it is for every reply
abbrev pub IsSoundReply : List Batch → Input → Output → Type 0
IsSoundReply placed input output = output.kind ≡ Reply → IsProved placed input output
