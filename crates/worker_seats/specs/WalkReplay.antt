-- What a replay is that answers by walks; and what it is by either way of answering.
use Rattle.std.specs.Prelude.{◌≡◌, ℕ, List, take, Some}
use Rattle.std.specs.List.{All, AllZip}
use Rattle.dnswire.specs.Query.{IsReadAs}
use Rattle.dnswire.specs.declared.question.Question.{Question}
use Rattle.dnswire.specs.declared.query_read.QueryRead.TheVariants.{Query}
use Rattle.denial_records.specs.declared.batch.Batch.{Batch}
use Rattle.cache_meaning.specs.Held.{held_of}
use Rattle.replay_meaning.specs.Frame.{Input}
use Rattle.replay_meaning.specs.OutFrame.{Output, IsOutput, outputs_spelling}
use Rattle.replay_meaning.specs.Fits.{Fits}
use Rattle.replay_meaning.specs.Replay.{SpellsFrames, IsReplay}
use Rattle.replay_meaning.specs.declared.out_frame.OutKind.TheVariants.{Reply}
use Rattle.resolver.specs.Walk.{Walk}
use Rattle.resolver.specs.SoundWalk.{IsSoundWalk}
use Rattle.resolver.specs.WalkReply.{octets_at, walk_in, walk_reply_in}
use Rattle.resolver.specs.declared.rule.Rule.{Rule}
use Rattle.resolver.specs.declared.answering.Answering.{Answering}
use Rattle.resolver.specs.declared.answering.Answering.TheVariants.{ByProof, ByWalk}

-- the reply is the octets of the walk that the records held at its version have for the question, and the walk is sound
pub record IsWalked (rule : Rule) (placed : List Batch) (input : Input) (output : Output) : Type 0 where
  pub question : Question
  pub asks : IsReadAs input.message (Query question)
  pub walk : Walk
  pub walks : walk_in rule (held_of (take output.version placed)) question input.now ≡ Some walk
  pub written : output.body ≡ octets_at question input.now walk
  pub sound : IsSoundWalk question.qtype question.name walk

-- so it is for every reply
abbrev pub IsSoundWalkReply : Rule → List Batch → Input → Output → Type 0
IsSoundWalkReply rule placed input output = output.kind ≡ Reply → IsWalked rule placed input output

-- The output spells frames that fit those of the input, where queries are answered by walks of the rule; and each reply among
-- them is that of a walk of which each link, and the end, says what every zone says of which the records that it used are true.
pub record IsWalkReplay (rule : Rule) (workers : ℕ) (octets output : List ℕ) : Type 0 where
  pub inputs : List Input
  pub frames : SpellsFrames workers octets inputs
  pub outputs : List Output
  pub written : output ≡ outputs_spelling outputs
  pub valid : All IsOutput outputs
  pub placed : List Batch
  pub fits : Fits (walk_reply_in rule) inputs workers placed outputs
  pub sound : AllZip (IsSoundWalkReply rule placed) inputs outputs

-- by either
abbrev pub IsReplayBy : Answering → ℕ → List ℕ → List ℕ → Type 0
IsReplayBy ByProof workers octets output = IsReplay workers octets output
IsReplayBy (ByWalk rule) workers octets output = IsWalkReplay rule workers octets output
