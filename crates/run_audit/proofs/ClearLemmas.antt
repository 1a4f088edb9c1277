-- Which frames are replies, to what, and that what is wrong with one stays so in versions that go on.
use Rattle.std.proofs.Common.{◌≡◌, ℕ, ◌≤◌, List, [], ◌∷◌, ◌++◌, length, take, Option, Some, None, refl, sym, ◌∙◌, ap, arith}
use Rattle.std.proofs.lemmas.List.{take-append-le}
use Rattle.dnswire.specs.declared.question.Question.{Question}
use Rattle.denial_records.specs.Proof.{Proof}
use Rattle.denial_records.specs.declared.batch.Batch.{Batch}
use Rattle.cache_meaning.specs.Held.{held_of}
use Rattle.zone_meaning.specs.Zone.{Zone}
use Rattle.reply_core.specs.Answered.{proof_in, reply_in}
use Rattle.replay_meaning.specs.Frame.{Input}
use Rattle.replay_meaning.specs.OutFrame.{Output}
use Rattle.replay_meaning.specs.Step.{Step, Query, Insert, Tell}
use Rattle.replay_meaning.specs.declared.out_frame.OutKind.TheVariants.{Reply, Stored}
use Rattle.run_audit.specs.Answering.{placed_by, IsRight, IsClear, IsFaulty, IsFaultIn}
use Rattle.run_audit.specs.Findings.{IsReplyTo}
use Rattle.run_audit.specs.Version.{version_of, output_at}
use Rattle.run_audit.specs.declared.fault.Fault.{Fault}
use Rattle.run_audit.proofs.FitLemmas.{query_version}

-- what is no reply is clear
pub clear_by_kind : (zone : Zone) (placed : List Batch) (input : Input) (output : Output) → (output.kind ≡ Reply → ⊥) → IsClear zone placed input output
clear_by_kind zone placed input output silent = λ question proof reply. absurd (silent reply.replies)

-- ---- versions that go on

module _ (zone : Zone) (placed after : List Batch) (input : Input) (output : Output) (within : output.version ≤ length placed) where
  same_version : take output.version (placed ++ after) ≡ take output.version placed
  same_version = take-append-le output.version placed after within

  reply_after : (question : Question) (proof : Proof) → IsReplyTo placed input output question proof → IsReplyTo (placed ++ after) input output question proof
  reply_after question proof reply = record {
    replies = reply.replies;
    asks = reply.asks;
    proves = ap (λ l. proof_in (held_of l) question input.now) same_version ∙ reply.proves;
  }

  reply_before : (question : Question) (proof : Proof) → IsReplyTo (placed ++ after) input output question proof → IsReplyTo placed input output question proof
  reply_before question proof reply = record {
    replies = reply.replies;
    asks = reply.asks;
    proves = ap (λ l. proof_in (held_of l) question input.now) (sym same_version) ∙ reply.proves;
  }

pub fault_after : (zone : Zone) (placed after : List Batch) (input : Input) (output : Output) (found : Option Fault) → output.version ≤ length placed → IsFaultIn zone placed input output found → IsFaultIn zone (placed ++ after) input output found
fault_after zone placed after input output None within clear = λ question proof reply.
    clear question proof (reply_before zone placed after input output within question proof reply)
fault_after zone placed after input output (Some fault) within faulty = record {
  question = faulty.question;
  proof = faulty.proof;
  reply = reply_after zone placed after input output within faulty.question faulty.proof faulty.reply;
  is = faulty.is;
}

-- ---- a right frame

-- one that places nothing has no later version
version_by : (placed : List Batch) (input : Input) (output : Output) (step : Step) → output ≡ output_at (version_of placed) input step → placed_by step ≡ [] → output.version ≤ length placed
version_by placed input output (Query question) is none =
    let same : output.version ≡ length placed = ap (λ o. o.version) is ∙ query_version input.worker (length placed) (reply_in (held_of placed) question input.now) in
    omega (arith, same)
version_by placed input output (Insert taken) is none = absurd cc
version_by placed input output (Tell kind body) is none =
    let same : output.version ≡ 0 = ap (λ o. o.version) is in
    omega (arith, same)

pub right_version : (placed : List Batch) (input : Input) (output : Output) → IsRight placed input output [] → output.version ≤ length placed
right_version placed input output right = version_by placed input output right.step right.is right.brings

-- one that places a batch is no reply
stored_by : (placed : List Batch) (input : Input) (output : Output) (step : Step) (batch : Batch) → output ≡ output_at (version_of placed) input step → placed_by step ≡ batch ∷ [] → output.kind ≡ Stored
stored_by placed input output (Query question) batch is some = absurd cc
stored_by placed input output (Insert taken) batch is some = ap (λ o. o.kind) is
stored_by placed input output (Tell kind body) batch is some = absurd cc

pub placed_clear : (zone : Zone) (placed others : List Batch) (input : Input) (output : Output) (batch : Batch) → IsRight placed input output (batch ∷ []) → IsClear zone others input output
placed_clear zone placed others input output batch right =
    let stored : output.kind ≡ Stored = stored_by placed input output right.step batch right.is right.brings in
    clear_by_kind zone others input output (λ replies. let same : Reply ≡ Stored = sym replies ∙ stored in absurd cc)
