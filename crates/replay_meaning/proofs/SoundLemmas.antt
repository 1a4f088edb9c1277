-- Replies are those of proofs.
use Rattle.std.proofs.Common.{◌≡◌, ℕ, List, [], ◌∷◌, take, Option, None, Some, refl, sym, ◌∙◌, ap, subst}
use Rattle.std.specs.Prelude.{Result, Ok, Err}
use Rattle.std.specs.List.{AllZip}
use Rattle.std.specs.Option.{option_map}
use Rattle.dnswire.specs.Query.{IsReadAs}
use Rattle.dnswire.specs.declared.question.Question.{Question}
use Rattle.dnswire.specs.declared.query_read.QueryRead.{QueryRead}
use Rattle.dnswire.specs.declared.query_read.QueryRead.TheVariants as reads
use Rattle.denial_records.specs.Proof.{Proof}
use Rattle.denial_records.specs.declared.batch.Batch.{Batch}
use Rattle.intake.specs.declared.taken.Taken.{Taken}
use Rattle.intake.specs.declared.intake_fault.IntakeFault.{IntakeFault}
use Rattle.cache_meaning.specs.Held.{held_of}
use Rattle.soundness.proofs.QueryLemmas.{outcome_sound}
use Rattle.replay_meaning.specs.Frame.{Input}
use Rattle.replay_meaning.specs.OutFrame.{Output}
use Rattle.reply_core.specs.Answered.{proof_in, proof_octets, reply_in}
use Rattle.replay_meaning.specs.Step.{Step, Query, Insert, Tell, query_step, answer_step, DoesBy, Does}
use Rattle.replay_meaning.specs.Fits.{IsOutputOf, IsFor, is_call, is_placed, query_output}
use Rattle.replay_meaning.specs.Sound.{IsSoundReply}
use Rattle.replay_meaning.specs.declared.frame.FrameKind.{FrameKind}
use Rattle.replay_meaning.specs.declared.frame.FrameKind.TheVariants as kinds
use Rattle.replay_meaning.specs.declared.out_frame.OutKind.TheVariants.{Reply, Forward}
use Rattle.replay_meaning.proofs.StepLemmas.{tells_no_call}
use Rattle.std.proofs.lemmas.Bool.{false≢true}

-- ---- a frame that queries asks the question

query_asks : (message : List ℕ) (question : Question) (read : QueryRead) → IsReadAs message read → Query question ≡ query_step read → IsReadAs message (reads.Query question)
query_asks message question reads.Dropped read is = absurd cc
query_asks message question (reads.NotImp head) read is = absurd cc
query_asks message question (reads.FormErr head) read is = absurd cc
query_asks message question (reads.BadVers other) read is = absurd cc
query_asks message question (reads.Query other) read is = let same : other ≡ question = cc in subst (λ q. IsReadAs message (reads.Query q)) same read

no_query : (question : Question) (given : Result Taken IntakeFault) → Query question ≡ answer_step given → ⊥
no_query question (Ok taken) is = absurd cc
no_query question (Err fault) is = absurd cc

pub asks_by : (kind : FrameKind) (now : ℕ) (message : List ℕ) (question : Question) → DoesBy kind now message (Query question) → IsReadAs message (reads.Query question)
asks_by kinds.Query now message question (read, reads, is) = query_asks message question read reads is
asks_by kinds.Upstream now message question (given, gives, is) = absurd (no_query question given is)

-- ---- its reply is that of a proof

proved_by : (placed : List Batch) (input : Input) (output : Output) (question : Question) (version : ℕ) (found : Option Proof) → IsReadAs input.message (reads.Query question) → proof_in (held_of (take version placed)) question input.now ≡ found → output ≡ query_output input.worker version (option_map (proof_octets question input.now) found) → IsSoundReply placed input output
proved_by placed input output question version None asks found is = λ reply. let same : Reply ≡ Forward = sym reply ∙ ap (λ o. o.kind) is in absurd cc
proved_by placed input output question version (Some proof) asks found is = λ reply. record {
  question = question;
  asks = asks;
  proof = proof;
  proves = ap (λ o. proof_in (held_of (take o.version placed)) question input.now) is ∙ found;
  written = ap (λ o. o.body) is;
  sound = (outcome_sound (held_of (take version placed)) input.now question.name question.qtype question.qclass proof found).sound;
}

step_sound : (placed : List Batch) (input : Input) (step : Step) (output : Output) → Does input step → IsOutputOf reply_in placed input step output → IsSoundReply placed input output
step_sound placed input (Query question) output does (version, within, is) =
    proved_by placed input output question version (proof_in (held_of (take version placed)) question input.now) (asks_by input.kind input.now input.message question does) refl is
step_sound placed input (Insert taken) output does (before, at, is) = λ reply. absurd (false≢true (ap is_placed (sym reply ∙ ap (λ o. o.kind) is)))
step_sound placed input (Tell kind body) output does is = λ reply. absurd (false≢true (sym (tells_no_call input (Tell kind body) does).not_called ∙ sym (ap (λ o. is_call o.kind) is) ∙ ap is_call reply))

pub replies_are_sound : (workers : ℕ) (placed : List Batch) (inputs : List Input) (outputs : List Output) → AllZip (IsFor reply_in workers placed) inputs outputs → AllZip (IsSoundReply placed) inputs outputs
replies_are_sound workers placed [] [] each = tt
replies_are_sound workers placed [] (output ∷ outputs) each = absurd each
replies_are_sound workers placed (input ∷ inputs) [] each = absurd each
replies_are_sound workers placed (input ∷ inputs) (output ∷ outputs) each = (step_sound placed input each.0.step output each.0.does each.0.says, replies_are_sound workers placed inputs outputs each.1)
