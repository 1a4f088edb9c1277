-- What one frame does over a seat.
use Rattle.std.proofs.Common.{◌≡◌, ℕ, ◌+◌, ◌-◌, ◌^◌, ◌≤◌, ◌⊎◌, inl, inr, Bool, false, cond, List, [], ◌∷◌, ◌++◌, length, take, Option, Some, slice_get, refl, sym, ◌∙◌, ap, subst, arith, length-append}
use Rattle.std.specs.Prelude.{Result, Ok, Err, OnOk}
use Rattle.std.proofs.lemmas.Bool.{false≢true}
use Rattle.std.proofs.lemmas.List.{append-nil, take_all}
use Rattle.std.proofs.lemmas.Option.{none-some, same_Some}
use Rattle.facts.proofs.Lists.{at_end}
use Rattle.dnswire.specs.Query.{IsReadAs}
use Rattle.dnswire.specs.declared.question.Question.{Question}
use Rattle.dnswire.specs.declared.query_read.QueryRead.{QueryRead}
use Rattle.dnswire.specs.declared.query_read.QueryRead.TheVariants as reads
use Rattle.intake.specs.Batch.{Gives, IsFault}
use Rattle.intake.specs.declared.taken.Taken.{Taken}
use Rattle.intake.specs.declared.intake_fault.IntakeFault.{IntakeFault}
use Rattle.intake.specs.declared.intake_fault.IntakeFault.TheVariants.{OutOfMemory}
use Rattle.denial_records.specs.declared.batch.Batch.{Batch}
use Rattle.cache_meaning.specs.Held.{Held, held_of}
use Rattle.cache_versions.specs.declared.state.State.{Ghosts}
use Rattle.cache_versions.specs.declared.seat.Seat.{Seat}
use Rattle.cache_versions.specs.declared.place.Placed.{Placed}
use Rattle.cache_versions.specs.Inserts.{Inserted}
use Rattle.cache_versions.specs.Seats.{places_by, seen_by}
use Rattle.cache_versions.proofs.Fronts.{prefix_length}
use Rattle.replay_meaning.specs.Frame.{Input}
use Rattle.replay_meaning.specs.OutFrame.{Output}
use Rattle.replay_meaning.specs.Outcome.{stored_octets}
use Rattle.replay_meaning.specs.Step.{Query, Insert, Tell, query_step, answer_step, DoesBy, Does}
use Rattle.replay_meaning.specs.Fits.{Rule, is_placed, query_output, told_output}
use Rattle.replay_meaning.specs.declared.frame.FrameKind.TheVariants as kinds
use Rattle.replay_meaning.specs.declared.out_frame.OutKind.{OutKind}
use Rattle.replay_meaning.specs.declared.out_frame.OutKind.TheVariants.{Stored, Error}
use Rattle.replay_meaning.proofs.StepLemmas.{tells_no_call}
use Rattle.replay_meaning.proofs.OneOutputLemmas.{query_worker}
use Rattle.resolver.specs.QueryStep.{fault_octets}
use Rattle.worker_seats.specs.Answer.{IsAnswered}
use Rattle.worker_seats.specs.OneFrame.{DoesOneFrame, IsDone, Writes, WritesCall, places_of}
use Rattle.worker_seats.proofs.AnswerLemmas.{query_places_none, query_version}

pub on_ok : {T E P Q : Type 0} (r : Result T E) → (P → Q) → OnOk r P → OnOk r Q
on_ok (Ok x) f p = f p
on_ok (Err e) f p = tt

pub on_both : {T E P Q R : Type 0} (r : Result T E) → (P → Q → R) → OnOk r P → OnOk r Q → OnOk r R
on_both (Ok x) f p q = f p q
on_both (Err e) f p q = tt

-- what holds for every rule holds for one
pub on_any : {T E : Type 0} (Q : Rule → Type 0) (r : Result T E) (rule : Rule) → OnOk r ((any : Rule) → Q any) → OnOk r (Q rule)
on_any Q (Ok x) rule all = all rule
on_any Q (Err e) rule all = tt

-- ---- places

no_place : (output : Output) → is_placed output.kind ≡ false → places_of output ≡ []
no_place output none = ap (λ (b : Bool). cond b ((output.version - 1) ∷ []) []) none

same_places : (places : List ℕ) (output : Output) → is_placed output.kind ≡ false → places ≡ places ++ places_of output
same_places places output none = sym (append-nil places) ∙ ap (λ l. places ++ l) (sym (no_place output none))

-- ---- steps

module _ {g : Ghosts Held Batch (Unit {0})} (rule : Rule) where
  pub told_frame : (seat : Seat Held Batch (Unit {0}) g) (input : Input) (kind : OutKind) (body octets octets' : List ℕ) → Does input (Tell kind body) → Writes (told_output input.worker kind body) octets octets' → DoesOneFrame rule seat seat input octets octets'
  told_frame seat input kind body octets octets' does writes =
      let none = tells_no_call input (Tell kind body) does in
      let answered : IsAnswered rule (seen_by seat) input (told_output input.worker kind body) = record { step = Tell kind body; does = does; says = refl } in
      record {
        output = told_output input.worker kind body;
        worker = refl;
        done = λ few. record {
          answered = answered;
          version = λ call. absurd call;
          rises = λ placed. absurd (false≢true (sym none.not_placed ∙ placed));
          places = same_places (places_by seat) (told_output input.worker kind body) none.not_placed;
          idle = λ no_call. refl;
        };
        writes = writes;
      }

  call_frame : (before after : Seat Held Batch (Unit {0}) g) (input : Input) (output : Output) (octets octets' : List ℕ)
      → output.worker ≡ input.worker → output.version ≡ length (seen_by after) → IsDone rule before after input output
      → WritesCall output octets octets' → DoesOneFrame rule before after input octets octets'
  call_frame before after input output octets octets' worker version done writes = record {
    output = writes.told;
    worker = writes.worker ∙ worker;
    done = λ few. subst (IsDone rule before after input) (sym (writes.same (omega (arith, few, version)))) done;
    writes = writes.writes;
  }

  pub asked_frame : (before after : Seat Held Batch (Unit {0}) g) (input : Input) (question : Question) (version : ℕ) (found : Option (List ℕ)) (octets octets' : List ℕ)
      → Does input (Query question) → version ≡ length (seen_by after) → rule (held_of (seen_by after)) question input.now ≡ found → places_by after ≡ places_by before
      → WritesCall (query_output input.worker version found) octets octets' → DoesOneFrame rule before after input octets octets'
  asked_frame before after input question version found octets octets' does version_is found_is same writes =
      let output : Output = query_output input.worker version found in
      let none = query_places_none input.worker version found in
      let all : take version (seen_by after) ≡ seen_by after = take_all version (seen_by after) (omega (arith, version_is)) in
      let answered : IsAnswered rule (seen_by after) input output = record {
        step = Query question;
        does = does;
        says = (version, omega (arith, version_is), ap (query_output input.worker version) (sym found_is ∙ ap (λ (l : List Batch). rule (held_of l) question input.now) (sym all)));
      } in
      let told : output.version ≡ length (seen_by after) = query_version input.worker version found ∙ version_is in
      call_frame before after input output octets octets' (query_worker input.worker version found) told (record {
        answered = answered;
        version = λ call. told;
        rises = λ placed. absurd (false≢true (sym none ∙ placed));
        places = same ∙ same_places (places_by before) output none;
        idle = λ no_call. absurd (no_call tt);
      }) writes

-- of what a query doesn't read, for any rule
module _ {g : Ghosts Held Batch (Unit {0})} where
  pub told_by_any : (seat : Seat Held Batch (Unit {0}) g) (input : Input) (kind : OutKind) (body octets octets' : List ℕ) → Does input (Tell kind body) → Writes (told_output input.worker kind body) octets octets' → (rule : Rule) → DoesOneFrame rule seat seat input octets octets'
  told_by_any seat input kind body octets octets' does writes rule = told_frame rule seat input kind body octets octets' does writes

  pub placed_frame : (before after : Seat Held Batch (Unit {0}) g) (input : Input) (taken : Taken) (p : Placed Held Batch (Unit {0}) g) (body octets octets' : List ℕ)
      → Does input (Insert taken) → Inserted before after taken.batch p → body ≡ stored_octets taken
      → WritesCall (record { kind = Stored; worker = input.worker; version = p.version; body = body }) octets octets' → (rule : Rule) → DoesOneFrame rule before after input octets octets'
  placed_frame before after input taken p body octets octets' does inserted body_is writes rule =
      let output : Output = record { kind = Stored; worker = input.worker; version = p.version; body = body } in
      let grown : length (seen_by after) ≡ length inserted.former + 1 = ap length inserted.seen ∙ length-append inserted.former (taken.batch ∷ []) in
      let answered : IsAnswered rule (seen_by after) input output = record {
        step = Insert taken;
        does = does;
        says = (
          length inserted.former,
          ap (λ l. slice_get l (length inserted.former)) inserted.seen ∙ at_end inserted.former taken.batch,
          λ i. record { kind = Stored; worker = input.worker; version = inserted.version i; body = body_is i },
        );
      } in
      let place : p.version - 1 ≡ length inserted.former = omega (arith, inserted.version) in
      let told : p.version ≡ length (seen_by after) = inserted.version ∙ sym grown in
      call_frame rule before after input output octets octets' refl told (record {
        answered = answered;
        version = λ call. told;
        rises = λ placed. omega (arith, prefix_length (seen_by before) inserted.former inserted.begins, grown);
        places = inserted.places ∙ ap (λ n. places_by before ++ n ∷ []) (sym place);
        idle = λ no_call. absurd (no_call tt);
      }) writes

  -- more batches were seen than a frame can tell
  pub spent_frame : (before after : Seat Held Batch (Unit {0}) g) (input : Input) (output : Output) (octets octets' : List ℕ)
      → output.worker ≡ input.worker → 2 ^ 32 ≤ length (seen_by after) → Writes output octets octets' → (rule : Rule) → DoesOneFrame rule before after input octets octets'
  spent_frame before after input output octets octets' worker many writes rule = record {
    output = output;
    worker = worker;
    done = λ few. absurd (omega (arith, few, many));
    writes = writes;
  }

-- ---- what a frame does

pub query_does : (input : Input) (read : QueryRead) → input.kind ≡ kinds.Query → IsReadAs input.message read → Does input (query_step read)
query_does input read kind reads = subst (λ k. DoesBy k input.now input.message (query_step read)) (sym kind) (read, reads, refl)

-- a fault is told by its octets
fault_step : (read : QueryRead) (octets : List ℕ) → fault_octets read ≡ Some octets → query_step read ≡ Tell Error octets
fault_step reads.Dropped octets is = absurd (none-some octets is)
fault_step (reads.NotImp head) octets is = ap (Tell Error) (same_Some _ octets is)
fault_step (reads.FormErr head) octets is = ap (Tell Error) (same_Some _ octets is)
fault_step (reads.BadVers question) octets is = ap (Tell Error) (same_Some _ octets is)
fault_step (reads.Query question) octets is = absurd (none-some octets is)

pub fault_does : (input : Input) (read : QueryRead) (octets : List ℕ) → input.kind ≡ kinds.Query → IsReadAs input.message read → fault_octets read ≡ Some octets → Does input (Tell Error octets)
fault_does input read octets kind reads is = subst (Does input) (fault_step read octets is) (query_does input read kind reads)

pub answer_does : (input : Input) (given : Result Taken IntakeFault) → input.kind ≡ kinds.Upstream → Gives input.message input.now given → Does input (answer_step given)
answer_does input given kind gives = subst (λ k. DoesBy k input.now input.message (answer_step given)) (sym kind) (given, gives, refl)

pub fault_is : (octets : List ℕ) (now : ℕ) (fault : IntakeFault) → (fault ≡ OutOfMemory) ⊎ IsFault octets now fault → (fault ≡ OutOfMemory → ⊥) → IsFault octets now fault
fault_is octets now fault (inl out) other = absurd (other out)
fault_is octets now fault (inr is) other = is
