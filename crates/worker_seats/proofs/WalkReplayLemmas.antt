-- What was made of frames is a replay by either way of answering: replies by walks are sound, as those of proofs are.
use Rattle.std.proofs.Common.{◌≡◌, ℕ, true, false, List, [], ◌∷◌, take, Option, None, Some, refl, sym, ◌∙◌, ap, subst}
use Rattle.std.specs.Prelude.{Bool, not, ◌&&◌, ◌==◌, if◌then◌else◌}
use Rattle.std.specs.List.{All, AllZip}
use Rattle.std.specs.Option.{option_map}
use Rattle.std.proofs.lemmas.Bool.{false≢true}
use Rattle.std.proofs.lemmas.Option.{none-some}
use Rattle.dname.specs.declared.types.TheConstants.{IN_CLASS}
use Rattle.dnswire.specs.Query.{IsReadAs}
use Rattle.dnswire.specs.declared.question.Question.{Question}
use Rattle.dnswire.specs.declared.query_read.QueryRead.TheVariants as reads
use Rattle.denial_records.specs.declared.batch.Batch.{Batch}
use Rattle.cache_meaning.specs.Held.{Held, held_of}
use Rattle.cache_meaning.specs.Prove.{is_forwarded}
use Rattle.soundness.proofs.QueryLemmas.{outcome_sound}
use Rattle.replay_meaning.specs.Frame.{Input}
use Rattle.replay_meaning.specs.OutFrame.{Output, IsOutput, outputs_spelling}
use Rattle.replay_meaning.specs.Step.{Step, Query, Insert, Tell, Does}
use Rattle.replay_meaning.specs.Fits.{Fits, IsFor, IsOutputOf, is_call, is_placed, query_output}
use Rattle.replay_meaning.specs.Replay.{SpellsFrames}
use Rattle.replay_meaning.specs.declared.out_frame.OutKind.TheVariants.{Reply, Forward}
use Rattle.replay_meaning.proofs.FrameLemmas.{inputs_have_one}
use Rattle.replay_meaning.proofs.OneOutputLemmas.{has_one_output}
use Rattle.replay_meaning.proofs.SoundLemmas.{asks_by, replies_are_sound}
use Rattle.replay_meaning.proofs.StepLemmas.{tells_no_call}
use Rattle.resolver.specs.Walk.{Walk, walk_of}
use Rattle.resolver.specs.SoundWalk.{IsSoundWalk}
use Rattle.resolver.specs.WalkReply.{octets_at, walk_in, walk_reply_in}
use Rattle.resolver.specs.declared.rule.Rule.{Rule}
use Rattle.resolver.proofs.SoundLemmas.{walk_sound}
use Rattle.worker_seats.specs.Answering.{rule_of}
use Rattle.worker_seats.specs.Laws.{HasOneWalkReplay, WalkRepliesAreSound}
use Rattle.worker_seats.specs.WalkReplay.{IsSoundWalkReply, IsReplayBy}
use Rattle.resolver.specs.declared.answering.Answering.{Answering}
use Rattle.resolver.specs.declared.answering.Answering.TheVariants.{ByProof, ByWalk}

-- ---- a walk for a question is sound

asked_sound : (rule : Rule) (held : Held) (question : Question) (now : ℕ) (walk : Walk) (here forwarded : Bool) → is_forwarded question.qtype ≡ forwarded
    → (if here && not forwarded then walk_of rule held now question.name question.qtype else None) ≡ Some walk → IsSoundWalk question.qtype question.name walk
asked_sound rule held question now walk true false ordinary is =
    walk_sound (λ held now name qtype qclass proof proved. (outcome_sound held now name qtype qclass proof proved).sound) rule held now question.qtype ordinary question.name walk is
asked_sound rule held question now walk true true ordinary is = absurd (none-some walk is)
asked_sound rule held question now walk false forwarded ordinary is = absurd (none-some walk is)

walk_in_sound : (rule : Rule) (held : Held) (question : Question) (now : ℕ) (walk : Walk) → walk_in rule held question now ≡ Some walk → IsSoundWalk question.qtype question.name walk
walk_in_sound rule held question now walk is = asked_sound rule held question now walk (question.qclass == IN_CLASS) (is_forwarded question.qtype) refl is

-- ---- replies are those of walks

walked_by : (rule : Rule) (placed : List Batch) (input : Input) (output : Output) (question : Question) (version : ℕ) (found : Option Walk) → IsReadAs input.message (reads.Query question) → walk_in rule (held_of (take version placed)) question input.now ≡ found → output ≡ query_output input.worker version (option_map (octets_at question input.now) found) → IsSoundWalkReply rule placed input output
walked_by rule placed input output question version None asks found is = λ reply. let same : Reply ≡ Forward = sym reply ∙ ap (λ o. o.kind) is in absurd cc
walked_by rule placed input output question version (Some walk) asks found is = λ reply. record {
  question = question;
  asks = asks;
  walk = walk;
  walks = ap (λ o. walk_in rule (held_of (take o.version placed)) question input.now) is ∙ found;
  written = ap (λ o. o.body) is;
  sound = walk_in_sound rule (held_of (take version placed)) question input.now walk found;
}

step_sound : (rule : Rule) (placed : List Batch) (input : Input) (step : Step) (output : Output) → Does input step → IsOutputOf (walk_reply_in rule) placed input step output → IsSoundWalkReply rule placed input output
step_sound rule placed input (Query question) output does (version, within, is) =
    walked_by rule placed input output question version (walk_in rule (held_of (take version placed)) question input.now) (asks_by input.kind input.now input.message question does) refl is
step_sound rule placed input (Insert taken) output does (before, at, is) = λ reply. absurd (false≢true (ap is_placed (sym reply ∙ ap (λ o. o.kind) is)))
step_sound rule placed input (Tell kind body) output does is = λ reply. absurd (false≢true (sym (tells_no_call input (Tell kind body) does).not_called ∙ sym (ap (λ o. is_call o.kind) is) ∙ ap is_call reply))

each_sound : (rule : Rule) (workers : ℕ) (placed : List Batch) (inputs : List Input) (outputs : List Output) → AllZip (IsFor (walk_reply_in rule) workers placed) inputs outputs → AllZip (IsSoundWalkReply rule placed) inputs outputs
each_sound rule workers placed [] [] each = tt
each_sound rule workers placed [] (output ∷ outputs) each = absurd each
each_sound rule workers placed (input ∷ inputs) [] each = absurd each
each_sound rule workers placed (input ∷ inputs) (output ∷ outputs) each = (step_sound rule placed input each.0.step output each.0.does each.0.says, each_sound rule workers placed inputs outputs each.1)

pub walks_sound : WalkRepliesAreSound
walks_sound rule inputs workers placed outputs fits = each_sound rule workers placed inputs outputs fits.each

-- ---- the whole

-- outputs that fit make a replay
pub replay_by : (answering : Answering) (workers : ℕ) (octets output : List ℕ) (inputs : List Input) (outputs : List Output) (placed : List Batch)
    → SpellsFrames workers octets inputs → output ≡ outputs_spelling outputs → All IsOutput outputs → Fits (rule_of answering) inputs workers placed outputs → IsReplayBy answering workers octets output
replay_by ByProof workers octets output inputs outputs placed frames written valid fits = record {
  inputs = inputs;
  frames = frames;
  outputs = outputs;
  written = written;
  valid = valid;
  placed = placed;
  fits = fits;
  sound = replies_are_sound workers placed inputs outputs fits.each;
}
replay_by (ByWalk rule) workers octets output inputs outputs placed frames written valid fits = record {
  inputs = inputs;
  frames = frames;
  outputs = outputs;
  written = written;
  valid = valid;
  placed = placed;
  fits = fits;
  sound = walks_sound rule inputs workers placed outputs fits;
}

pub has_one_walk_replay : HasOneWalkReplay
has_one_walk_replay rule octets output output' one other =
    let inputs = inputs_have_one.whole one.inputs other.inputs one.frames.valid other.frames.valid (sym one.frames.spelled ∙ other.frames.spelled) in
    let fits = subst (λ l. Fits (walk_reply_in rule) l 1 one.placed one.outputs) inputs one.fits in
    one.written ∙ ap outputs_spelling (has_one_output (walk_reply_in rule) other.inputs one.placed other.placed one.outputs other.outputs fits other.fits) ∙ sym other.written
