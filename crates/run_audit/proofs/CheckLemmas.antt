-- What one pair says at a version.
use Rattle.std.proofs.Common.{◌≡◌, ℕ, ◌+◌, ◌⊎◌, inl, inr, Bool, true, false, IsTrue, ◌↔◌, List, [], ◌∷◌, length, take, Option, Some, None, refl, sym, ◌∙◌, ap, subst, arith}
use Rattle.std.specs.Prelude.{Result, Err, IsSome}
use Rattle.std.specs.Option.{option_map}
use Rattle.std.proofs.lemmas.Bool.{false≢true}
use Rattle.std.proofs.lemmas.List.{take_all}
use Rattle.std.proofs.lemmas.Option.{same_Some}
use Rattle.denial_records.specs.Proof.{Proof}
use Rattle.denial_records.specs.declared.batch.Batch.{Batch}
use Rattle.denial_records.specs.declared.verdict.Verdict.{Verdict}
use Rattle.cache_meaning.specs.Held.{Held, held_of}
use Rattle.cache_meaning.specs.Verdict.{IsVerdictOf}
use Rattle.held_laws.specs.KeyOrder.{kept_of}
use Rattle.held_laws.proofs.AnswerLemmas.{same_lookups, outcome_alike}
use Rattle.held_laws.proofs.OrderedLemmas.{all_alike}
use Rattle.zone_meaning.specs.Zone.{Zone}
use Rattle.dnswire.specs.Query.{IsReadAs}
use Rattle.dnswire.specs.declared.question.Question.{Question}
use Rattle.dnswire.specs.declared.query_read.QueryRead.{QueryRead}
use Rattle.dnswire.specs.declared.query_read.QueryRead.TheVariants as reads
use Rattle.dnswire.proofs.QueryLemmas.{one_read}
use Rattle.reply_core.specs.Answered.{proof_in, proof_octets, reply_in}
use Rattle.reply_core.specs.Reply.{reply_octets}
use Rattle.reply_core.specs.Shown.{shown_by}
use Rattle.reply_core.proofs.ShownLemmas.{shown_is, verdict_is_reply}
use Rattle.intake.specs.Batch.{Gives, IsFault}
use Rattle.intake.specs.declared.taken.Taken.{Taken}
use Rattle.intake.specs.declared.intake_fault.IntakeFault.{IntakeFault}
use Rattle.intake.specs.declared.intake_fault.IntakeFault.TheVariants.{OutOfMemory}
use Rattle.replay_meaning.specs.Frame.{Input}
use Rattle.replay_meaning.specs.OutFrame.{Output}
use Rattle.replay_meaning.specs.Outcome.{refusal_code}
use Rattle.replay_meaning.specs.Step.{Step, Query, Insert, Does, DoesBy, query_step, answer_step}
use Rattle.replay_meaning.specs.Fits.{query_output, insert_output, told_output}
use Rattle.replay_meaning.specs.declared.frame.FrameKind.TheVariants as kinds
use Rattle.replay_meaning.specs.declared.out_frame.OutKind.TheVariants.{Reply, Refused}
use Rattle.replay_meaning.proofs.StepLemmas.{one_step}
use Rattle.run_audit.specs.Answering.{placed_by, IsRight, IsWrong, IsClear, IsChecked, IsReplyChecked, IsStoredChecked, told}
use Rattle.run_audit.specs.Faults.{IsFaultOf}
use Rattle.run_audit.specs.Findings.{IsReplyTo, IsFaultless}
use Rattle.run_audit.specs.Version.{version_of, output_at}
use Rattle.run_audit.specs.declared.checked.Checked.{Checked}
use Rattle.run_audit.specs.declared.checked.Checked.TheVariants.{Wrong, Right, Faulty, Placed}
use Rattle.run_audit.specs.declared.fault.Fault.{Fault}
use Rattle.run_audit.proofs.ClearLemmas.{clear_by_kind}
use Rattle.run_audit.proofs.FitLemmas.{query_version}

-- ---- what a frame does

pub query_does : (input : Input) (read : QueryRead) → input.kind ≡ kinds.Query → IsReadAs input.message read → Does input (query_step read)
query_does input read kind reads = subst (λ k. DoesBy k input.now input.message (query_step read)) (sym kind) (read, reads, refl)

pub answer_does : (input : Input) (given : Result Taken IntakeFault) → input.kind ≡ kinds.Upstream → Gives input.message input.now given → Does input (answer_step given)
answer_does input given kind gives = subst (λ k. DoesBy k input.now input.message (answer_step given)) (sym kind) (given, gives, refl)

pub fault_is : (octets : List ℕ) (now : ℕ) (fault : IntakeFault) → (fault ≡ OutOfMemory) ⊎ IsFault octets now fault → (fault ≡ OutOfMemory → ⊥) → IsFault octets now fault
fault_is octets now fault (inl out) other = absurd (other out)
fault_is octets now fault (inr is) other = is

-- ---- frames that have no reply

-- a test of the output of the input frame's step tells what is right
module _ (placed : List Batch) (input : Input) (output : Output) (step : Step) (r : Bool) (does : Does input step) (decides : IsTrue r ↔ (output ≡ output_at (version_of placed) input step)) where
  right_by : r ≡ true → placed_by step ≡ [] → IsRight placed input output []
  right_by yes' none = record { step = step; does = does; is = decides.0 yes'; brings = none }

  wrong_by : r ≡ false → IsWrong placed input output
  wrong_by no' other does' is = false≢true (sym no' ∙ decides.1 (is ∙ ap (output_at (version_of placed) input) (one_step input other step does' does)))

-- of a frame that places nothing and is no reply
told_checked : (zone : Zone) (placed : List Batch) (input : Input) (output : Output) (step : Step) (r : Bool) → Does input step → (IsTrue r ↔ (output ≡ output_at (version_of placed) input step)) → placed_by step ≡ [] → ((output_at (version_of placed) input step).kind ≡ Reply → ⊥) → IsChecked zone placed input output (told r)
told_checked zone placed input output step true does decides none silent = (
  right_by placed input output step true does decides refl none,
  clear_by_kind zone placed input output (λ replies. silent (sym (ap (λ o. o.kind) (decides.0 refl)) ∙ replies)),
)
told_checked zone placed input output step false does decides none silent = wrong_by placed input output step false does decides refl

pub told_as : (zone : Zone) (placed : List Batch) (input : Input) (output : Output) (step : Step) (r : Bool) (checked : Checked) → Does input step → (IsTrue r ↔ (output ≡ output_at (version_of placed) input step)) → placed_by step ≡ [] → ((output_at (version_of placed) input step).kind ≡ Reply → ⊥) → checked ≡ told r → IsChecked zone placed input output checked
told_as zone placed input output step r checked does decides none silent is =
    subst (IsChecked zone placed input output) (sym is) (told_checked zone placed input output step r does decides none silent)

-- of a query that asks nothing
abbrev pub AsksNothing : QueryRead → Type 0
AsksNothing reads.Dropped = Unit {0}
AsksNothing (reads.NotImp head) = Unit {0}
AsksNothing (reads.FormErr head) = Unit {0}
AsksNothing (reads.BadVers question) = Unit {0}
AsksNothing (reads.Query question) = ⊥

nothing_placed : (read : QueryRead) → AsksNothing read → placed_by (query_step read) ≡ []
nothing_placed reads.Dropped none = refl
nothing_placed (reads.NotImp head) none = refl
nothing_placed (reads.FormErr head) none = refl
nothing_placed (reads.BadVers question) none = refl
nothing_placed (reads.Query question) none = absurd none

no_reply : (placed : List Batch) (input : Input) (read : QueryRead) → AsksNothing read → (output_at (version_of placed) input (query_step read)).kind ≡ Reply → ⊥
no_reply placed input reads.Dropped none = λ same. absurd cc
no_reply placed input (reads.NotImp head) none = λ same. absurd cc
no_reply placed input (reads.FormErr head) none = λ same. absurd cc
no_reply placed input (reads.BadVers question) none = λ same. absurd cc
no_reply placed input (reads.Query question) none = absurd none

pub query_told : (zone : Zone) (placed : List Batch) (input : Input) (output : Output) (read : QueryRead) (r : Bool) (checked : Checked) → AsksNothing read → input.kind ≡ kinds.Query → IsReadAs input.message read → (IsTrue r ↔ (output ≡ output_at (version_of placed) input (query_step read))) → checked ≡ told r → IsChecked zone placed input output checked
query_told zone placed input output read r checked none kind reads decides =
    told_as zone placed input output (query_step read) r checked (query_does input read kind reads) decides (nothing_placed read none) (no_reply placed input read none)

-- ---- a question

-- what is kept in the order of keys has the proof that what is held has
proof_as_held : (placed : List Batch) (store : Held) (question : Question) (now : ℕ) → store ≡ kept_of placed → proof_in store question now ≡ proof_in (held_of placed) question now
proof_as_held placed store question now kept =
    let alike = all_alike placed in
    ap (λ (h : Held). proof_in h question now) kept
    ∙ sym (outcome_alike _ _ (same_lookups _ _ alike.apart alike.order) now question.name question.qtype question.qclass)

-- asked of the version of this number
at_number : (placed : List Batch) (number : ℕ) (input : Input) (output : Output) (question : Question) (r : Bool) → number ≡ length placed → (IsTrue r ↔ (output ≡ query_output input.worker number (reply_in (held_of placed) question input.now))) → IsTrue r ↔ (output ≡ output_at (version_of placed) input (Query question))
at_number placed number input output question r is decides = (
  λ yes'. decides.0 yes' ∙ ap (λ n. query_output input.worker n (reply_in (held_of placed) question input.now)) is,
  λ same. decides.1 (same ∙ ap (λ n. query_output input.worker n (reply_in (held_of placed) question input.now)) (sym is)),
)

-- it has no proof
no_proof : {X : Type 0} (found : Option X) → (IsSome found → ⊥) → found ≡ None
no_proof None none = refl
no_proof (Some x) none = absurd (none refl)

pub asked_none : (zone : Zone) (placed : List Batch) (store : Held) (number : ℕ) (input : Input) (output : Output) (question : Question) (r : Bool) (checked : Checked) → input.kind ≡ kinds.Query → IsReadAs input.message (reads.Query question) → store ≡ kept_of placed → number ≡ length placed → (IsSome (proof_in store question input.now) → ⊥)
    → (IsTrue r ↔ (output ≡ query_output input.worker number None)) → checked ≡ told r → IsChecked zone placed input output checked
asked_none zone placed store number input output question r checked kind asks kept number_is none decides =
    let nothing : reply_in (held_of placed) question input.now ≡ None =
    ap (option_map (proof_octets question input.now)) (sym (proof_as_held placed store question input.now kept) ∙ no_proof (proof_in store question input.now) none) in
    let at : IsTrue r ↔ (output ≡ query_output input.worker number (reply_in (held_of placed) question input.now)) =
    subst (λ found. IsTrue r ↔ (output ≡ query_output input.worker number found)) (sym nothing) decides in
    told_as zone placed input output (Query question) r checked (query_does input (reads.Query question) kind asks) (at_number placed number input output question r number_is at) refl
    (λ same. forwards (reply_in (held_of placed) question input.now) nothing same)
  where
    forwards : (found : Option (List ℕ)) → found ≡ None → (query_output input.worker (length placed) found).kind ≡ Reply → ⊥
    forwards None is same = absurd cc
    forwards (Some octets) is same = absurd cc

-- it has one
shown : (now : ℕ) (found : Option Proof) (verdict : Verdict) → IsVerdictOf now found verdict → IsSome found → found ≡ Some (shown_by verdict)
shown now None verdict is some = absurd (false≢true some)
shown now (Some proof) verdict is some = ap Some (sym (shown_is verdict proof is.shows))

module _ (zone : Zone) (placed : List Batch) (input : Input) (output : Output) (question : Question) (proof : Proof) (octets : List ℕ) (does : Does input (Query question)) (asks : IsReadAs input.message (reads.Query question))
    (proves : proof_in (held_of placed) question input.now ≡ Some proof) (replies : reply_in (held_of placed) question input.now ≡ Some octets) where
  awaited : output_at (version_of placed) input (Query question) ≡ query_output input.worker (length placed) (Some octets)
  awaited = ap (query_output input.worker (length placed)) replies

  module _ (is : output ≡ query_output input.worker (length placed) (Some octets)) where
    is_right : IsRight placed input output []
    is_right = record { step = Query question; does = does; is = is ∙ sym awaited; brings = refl }

    proves_at : proof_in (held_of (take output.version placed)) question input.now ≡ Some proof
    proves_at =
        let same : output.version ≡ length placed = ap (λ o. o.version) is in
        ap (λ n. proof_in (held_of (take n placed)) question input.now) same
        ∙ ap (λ l. proof_in (held_of l) question input.now) (take_all (length placed) placed (omega arith)) ∙ proves

    is_reply : IsReplyTo placed input output question proof
    is_reply = record { replies = ap (λ o. o.kind) is; asks = asks; proves = proves_at }

    is_clear : IsFaultless zone question.name proof → IsClear zone placed input output
    is_clear faultless = λ other proof' reply.
        let one : reads.Query question ≡ reads.Query other = one_read input.message (reads.Query question) (reads.Query other) asks reply.asks in
        let same : question ≡ other = cc in
        let proof_is : proof ≡ proof' = same_Some proof proof' (sym proves_at ∙ ap (λ q. proof_in (held_of (take output.version placed)) q input.now) same ∙ reply.proves) in
        subst (λ q. IsFaultless zone q.name proof') same (subst (IsFaultless zone question.name) proof_is faultless)

  reply_checked : (checked : Checked) → IsReplyChecked zone question.name proof output (query_output input.worker (length placed) (Some octets)) checked → IsChecked zone placed input output checked
  reply_checked Wrong wrong = λ step does' is. wrong (is ∙ ap (output_at (version_of placed) input) (one_step input step (Query question) does' does) ∙ awaited)
  reply_checked Right (is, faultless) = (is_right is, is_clear is faultless)
  reply_checked (Faulty fault) (is, faulty) = (is_right is, record { question = question; proof = proof; reply = is_reply is; is = faulty })
  reply_checked (Placed batch) none = absurd none

pub asked_some : (zone : Zone) (placed : List Batch) (store : Held) (number : ℕ) (input : Input) (output : Output) (question : Question) (verdict : Verdict) (checked : Checked) → input.kind ≡ kinds.Query → IsReadAs input.message (reads.Query question) → store ≡ kept_of placed → number ≡ length placed
    → IsVerdictOf input.now (proof_in store question input.now) verdict → IsSome (proof_in store question input.now)
    → IsReplyChecked zone question.name (shown_by verdict) output (query_output input.worker number (Some (reply_octets question (shown_by verdict) verdict.ttl))) checked → IsChecked zone placed input output checked
asked_some zone placed store number input output question verdict checked kind asks kept number_is shows some found =
    let same = proof_as_held placed store question input.now kept in
    reply_checked zone placed input output question (shown_by verdict) (reply_octets question (shown_by verdict) verdict.ttl) (query_does input (reads.Query question) kind asks) asks
    (sym same ∙ shown input.now (proof_in store question input.now) verdict shows some)
    (ap (option_map (proof_octets question input.now)) (sym same) ∙ verdict_is_reply store question input.now verdict shows some)
    checked
    (subst (λ n. IsReplyChecked zone question.name (shown_by verdict) output (query_output input.worker n (Some (reply_octets question (shown_by verdict) verdict.ttl))) checked) number_is found)

-- ---- an upstream answer

-- what is found of a batch that is to be stored
pub stored_checked : (zone : Zone) (placed : List Batch) (number : ℕ) (input : Input) (output : Output) (taken : Taken) (checked : Checked) → number ≡ length placed → Does input (Insert taken)
    → IsStoredChecked taken.batch output (insert_output input.worker (number + 1) taken) checked → IsChecked zone placed input output checked
stored_checked zone placed number input output taken Wrong number_is does wrong = λ step does' is.
    wrong (is ∙ ap (output_at (version_of placed) input) (one_step input step (Insert taken) does' does) ∙ ap (λ n. insert_output input.worker (n + 1) taken) (sym number_is))
stored_checked zone placed number input output taken Right number_is does none = absurd none
stored_checked zone placed number input output taken (Faulty fault) number_is does none = absurd none
stored_checked zone placed number input output taken (Placed batch) number_is does (same, is) =
    record { step = Insert taken; does = does; is = is ∙ ap (λ n. insert_output input.worker (n + 1) taken) number_is; brings = ap (λ b. b ∷ []) (sym same) }

-- what a refusal's test tells
refused_decides : (placed : List Batch) (input : Input) (output : Output) (fault : IntakeFault) (code : ℕ) (r : Bool) → code ≡ refusal_code fault → (IsTrue r ↔ (output ≡ told_output input.worker Refused (code ∷ []))) → IsTrue r ↔ (output ≡ output_at (version_of placed) input (answer_step (Err fault)))
refused_decides placed input output fault code r is decides = (
  λ yes'. decides.0 yes' ∙ ap (λ n. told_output input.worker Refused (n ∷ [])) is,
  λ same. decides.1 (same ∙ ap (λ n. told_output input.worker Refused (n ∷ [])) (sym is)),
)

pub refused_told : (zone : Zone) (placed : List Batch) (input : Input) (output : Output) (fault : IntakeFault) (code : ℕ) (r : Bool) (checked : Checked) → input.kind ≡ kinds.Upstream → code ≡ refusal_code fault → (fault ≡ OutOfMemory) ⊎ IsFault input.message input.now fault → (fault ≡ OutOfMemory → ⊥)
    → (IsTrue r ↔ (output ≡ told_output input.worker Refused (code ∷ []))) → checked ≡ told r → IsChecked zone placed input output checked
refused_told zone placed input output fault code r checked kind is faulty other decides =
    told_as zone placed input output (answer_step (Err fault)) r checked (answer_does input (Err fault) kind (fault_is input.message input.now fault faulty other))
    (refused_decides placed input output fault code r is decides) refl (λ same. absurd cc)
