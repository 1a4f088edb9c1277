-- For one worker an input has one output.
use Rattle.std.proofs.Common.{◌≡◌, ℕ, zero, suc, ◌+◌, ◌<◌, ◌≤◌, true, false, List, [], ◌∷◌, ◌++◌, length, take, Option, None, Some, slice_get, refl, sym, ◌∙◌, ap, subst, arith, add-one}
use Rattle.std.specs.List.{All, AllZip}
use Rattle.std.proofs.lemmas.Bool.{false≢true}
use Rattle.std.proofs.lemmas.List.Elements.{All-nil, All-cons, All-head, All-tail}
use Rattle.std.proofs.lemmas.Option.{none-some}
use Rattle.denial_records.specs.declared.batch.Batch.{Batch}
use Rattle.intake.specs.declared.taken.Taken.{Taken}
use Rattle.cache_meaning.specs.Held.{held_of}
use Rattle.reply_core.specs.Answered.{reply_in}
use Rattle.replay_meaning.specs.Frame.{Input}
use Rattle.replay_meaning.specs.OutFrame.{Output}
use Rattle.replay_meaning.specs.Step.{Step, Query, Insert, Tell}
use Rattle.replay_meaning.specs.Fits.{Rule, IsOutputOf, IsFor, Fits, is_call, is_placed, places, query_output, insert_output}
use Rattle.replay_meaning.specs.Laws.{HasOneOutput, HasOneReplay}
use Rattle.replay_meaning.specs.OutFrame.{outputs_spelling}
use Rattle.replay_meaning.specs.declared.out_frame.OutKind.{OutKind}
use Rattle.replay_meaning.specs.declared.out_frame.OutKind.TheVariants.{Reply, Forward, Stored, Refused, Dropped, Error}
use Rattle.replay_meaning.proofs.FrameLemmas.{inputs_have_one}
use Rattle.replay_meaning.proofs.HistoryLemmas.{GoesOn, IsFrom, IsTurn, none_from, turn_rises, count_no, places_no}
use Rattle.replay_meaning.proofs.StepLemmas.{TellsNoCall, tells_no_call, one_step}

-- ---- one worker

pub query_worker : (worker version : ℕ) (reply : Option (List ℕ)) → (query_output worker version reply).worker ≡ worker
query_worker worker version None = refl
query_worker worker version (Some octets) = refl

worker_kept : (rule : Rule) (placed : List Batch) (input : Input) (step : Step) (output : Output) → IsOutputOf rule placed input step output → output.worker ≡ input.worker
worker_kept rule placed input (Query question) output (version, within, is) = ap (λ o. o.worker) is ∙ query_worker input.worker version (rule (held_of (take version placed)) question input.now)
worker_kept rule placed input (Insert taken) output (before, at, is) = ap (λ o. o.worker) is
worker_kept rule placed input (Tell kind body) output is = ap (λ o. o.worker) is

the_worker : (rule : Rule) (placed : List Batch) (input : Input) (output : Output) → IsFor rule 1 placed input output → output.worker ≡ 0
the_worker rule placed input output for' = omega (arith, worker_kept rule placed input for'.step output for'.says, for'.below)

the_workers : (rule : Rule) (placed : List Batch) (inputs : List Input) (outputs : List Output) → AllZip (IsFor rule 1 placed) inputs outputs → All (λ output. output.worker ≡ 0) outputs
the_workers rule placed [] [] each = All-nil (λ (output : Output). output.worker ≡ 0)
the_workers rule placed [] (output ∷ outputs) each = absurd each
the_workers rule placed (input ∷ inputs) [] each = absurd each
the_workers rule placed (input ∷ inputs) (output ∷ outputs) each = All-cons (λ (o : Output). o.worker ≡ 0) output outputs (the_worker rule placed input output each.0) (the_workers rule placed inputs outputs each.1)

-- what comes after a call is of its version or a later one
after_call : (rule : Rule) (placed : List Batch) (before : ℕ) (input : Input) (inputs : List Input) (output : Output) (outputs : List Output) → GoesOn rule 1 placed before (input ∷ inputs) (output ∷ outputs) → is_call output.kind ≡ true → All (IsFrom output.version) outputs
after_call rule placed before input inputs output outputs on call = λ k d within.
    let later = on.order zero (suc k) d (omega arith) (omega (arith, within)) in
    let same = the_worker rule placed input output on.each.0 ∙ sym (the_workers rule placed inputs outputs on.each.1 k d within) in
    record { call = later.never_back same call; placed = later.rises same call }

-- no version is left out before a call
no_gap : (rule : Rule) (placed : List Batch) (before version : ℕ) (input : Input) (inputs : List Input) (output : Output) (outputs : List Output) → GoesOn rule 1 placed before (input ∷ inputs) (output ∷ outputs) → is_call output.kind ≡ true → before < version → version ≤ output.version → version ≤ length placed → places version output ≡ false → ⊥
no_gap rule placed before version input inputs output outputs on call above within there other =
    omega (arith, on.versions version above there, count_no (places version) output outputs other, none_from output.version version outputs within (after_call rule placed before input inputs output outputs on call))

-- ---- what one output leaves

pub placed_calls : (kind : OutKind) → is_placed kind ≡ true → is_call kind ≡ true
placed_calls Reply is = refl
placed_calls Forward is = refl
placed_calls Stored is = refl
placed_calls Refused is = is
placed_calls Dropped is = is
placed_calls Error is = is

from_after : (rule : Rule) (placed : List Batch) (before after : ℕ) (input : Input) (inputs : List Input) (output : Output) (outputs : List Output) → GoesOn rule 1 placed before (input ∷ inputs) (output ∷ outputs) → IsTurn before after output → All (IsFrom after) outputs
from_after rule placed before after input inputs output outputs on (IsTurn.no_call call placed' is) = subst (λ n. All (IsFrom n) outputs) (sym is) (All-tail (IsFrom before) output outputs on.from)
from_after rule placed before after input inputs output outputs on (IsTurn.reads placed' version is) = subst (λ n. All (IsFrom n) outputs) (sym is) (All-tail (IsFrom before) output outputs on.from)
from_after rule placed before after input inputs output outputs on (IsTurn.makes placed' version is) =
    subst (λ n. All (IsFrom n) outputs) (version ∙ sym is) (after_call rule placed before input inputs output outputs on (placed_calls output.kind placed'))

places_not_after : (before after version : ℕ) (output : Output) → IsTurn before after output → after < version → places version output ≡ false
places_not_after before after version output (IsTurn.no_call call placed is) above = places_no version output (λ yes' same. false≢true (sym placed ∙ yes'))
places_not_after before after version output (IsTurn.reads placed version_is is) above = places_no version output (λ yes' same. false≢true (sym placed ∙ yes'))
places_not_after before after version output (IsTurn.makes placed version_is is) above = places_no version output (λ yes' same. omega (arith, same, version_is, is, above))

goes_after : (rule : Rule) (placed : List Batch) (before after : ℕ) (input : Input) (inputs : List Input) (output : Output) (outputs : List Output) → GoesOn rule 1 placed before (input ∷ inputs) (output ∷ outputs) → IsTurn before after output → GoesOn rule 1 placed after inputs outputs
goes_after rule placed before after input inputs output outputs on turn = record {
  each = on.each.1;
  versions = λ version above within. sym (count_no (places version) output outputs (places_not_after before after version output turn above)) ∙ on.versions version (omega (arith, above, turn_rises before after output turn)) within;
  order = λ i j d lt within. on.order (suc i) (suc j) d (omega (arith, lt)) (omega (arith, within));
  from = from_after rule placed before after input inputs output outputs on turn;
}

-- ---- the turn of a step

same_or_above : (before version : ℕ) → before ≤ version → (before < version → ⊥) → version ≡ before
same_or_above before version within none = omega (arith, within, none)

query_is : (worker version : ℕ) (reply : Option (List ℕ)) → (is_call (query_output worker version reply).kind ≡ true) × (is_placed (query_output worker version reply).kind ≡ false) × ((query_output worker version reply).version ≡ version)
query_is worker version None = (refl, refl, refl)
query_is worker version (Some octets) = (refl, refl, refl)

-- the output of a query is of the version before
query_turn : (rule : Rule) (placed : List Batch) (before : ℕ) (input : Input) (inputs : List Input) (output : Output) (outputs : List Output) (worker version : ℕ) (reply : Option (List ℕ)) → GoesOn rule 1 placed before (input ∷ inputs) (output ∷ outputs) → version ≤ length placed → output ≡ query_output worker version reply → version ≡ before
query_turn rule placed before input inputs output outputs worker version reply on within is =
    let facts = query_is worker version reply in
    let call : is_call output.kind ≡ true = ap (λ o. is_call o.kind) is ∙ facts.0 in
    let number : output.version ≡ version = ap (λ o. o.version) is ∙ facts.2 in
    let least = (All-head (IsFrom before) output outputs on.from).call call in
    same_or_above before version (omega (arith, least, number)) (λ above.
    no_gap rule placed before version input inputs output outputs on call above (omega (arith, number)) within
    (places_no version output (λ yes' same. false≢true (sym facts.1 ∙ sym (ap (λ o. is_placed o.kind) is) ∙ yes'))))

slice_within : {X : Type 0} (xs : List X) (i : ℕ) (x : X) → slice_get xs i ≡ Some x → i < length xs
slice_within [] i x is = absurd (none-some x is)
slice_within (y ∷ xs) zero x is = omega arith
slice_within (y ∷ xs) (suc i) x is = omega (arith, slice_within xs i x is)

take_suc : {X : Type 0} (xs : List X) (i : ℕ) (x : X) → slice_get xs i ≡ Some x → take (suc i) xs ≡ take i xs ++ x ∷ []
take_suc [] i x is = absurd (none-some x is)
take_suc (y ∷ xs) zero x is = let same : y ≡ x = cc in ap (λ z. z ∷ []) same
take_suc (y ∷ xs) (suc i) x is = ap (λ l. y ∷ l) (take_suc xs i x is)

take_next : {X : Type 0} (xs : List X) (i : ℕ) (x : X) → slice_get xs i ≡ Some x → take (i + 1) xs ≡ take i xs ++ x ∷ []
take_next xs i x is = ap (λ n. take n xs) (add-one i) ∙ take_suc xs i x is

-- that of an insert makes the next one
insert_turn : (rule : Rule) (placed : List Batch) (before : ℕ) (input : Input) (inputs : List Input) (output : Output) (outputs : List Output) (worker at : ℕ) (taken : Taken) → GoesOn rule 1 placed before (input ∷ inputs) (output ∷ outputs) → slice_get placed at ≡ Some taken.batch → output ≡ insert_output worker (at + 1) taken → at ≡ before
insert_turn rule placed before input inputs output outputs worker at taken on there is =
    let call : is_call output.kind ≡ true = ap (λ o. is_call o.kind) is in
    let number : output.version ≡ at + 1 = ap (λ o. o.version) is in
    let least = (All-head (IsFrom before) output outputs on.from).placed (ap (λ o. is_placed o.kind) is) in
    same_or_above before at (omega (arith, least, number)) (λ above.
    no_gap rule placed before at input inputs output outputs on call above (omega (arith, number)) (omega (arith, slice_within placed at taken.batch there))
    (places_no at output (λ yes' same. omega (arith, same, number))))

-- two outputs of one step are the same, and so are the batches placed then
record SameTurn (placed placed' : List Batch) (before : ℕ) (output output' : Output) : Type 0 where
  after : ℕ
  outputs_same : output ≡ output'
  placed_same : take after placed ≡ take after placed'
  turn : IsTurn before after output

same_turn : (rule : Rule) (placed placed' : List Batch) (before : ℕ) (input : Input) (inputs : List Input) (output output' : Output) (outputs outputs' : List Output) (step : Step) → TellsNoCall step → IsOutputOf rule placed input step output → IsOutputOf rule placed' input step output' → GoesOn rule 1 placed before (input ∷ inputs) (output ∷ outputs) → GoesOn rule 1 placed' before (input ∷ inputs) (output' ∷ outputs') → take before placed ≡ take before placed' → SameTurn placed placed' before output output'
same_turn rule placed placed' before input inputs output output' outputs outputs' (Query question) tells (version, within, is) (version', within', is') on on' same =
    let reply = λ (p : List Batch) (v : ℕ). rule (held_of (take v p)) question input.now in
    let one = query_turn rule placed before input inputs output outputs input.worker version (reply placed version) on within is in
    let other = query_turn rule placed' before input inputs output' outputs' input.worker version' (reply placed' version') on' within' is' in
    let facts = query_is input.worker version (reply placed version) in
    record {
      after = before;
      outputs_same = is ∙ ap (λ v. query_output input.worker v (reply placed v)) one ∙ ap (λ l. query_output input.worker before (rule (held_of l) question input.now)) same
          ∙ ap (λ v. query_output input.worker v (reply placed' v)) (sym other) ∙ sym is';
      placed_same = same;
      turn = IsTurn.reads (ap (λ o. is_placed o.kind) is ∙ facts.1) (ap (λ o. o.version) is ∙ facts.2 ∙ one) refl;
    }
same_turn rule placed placed' before input inputs output output' outputs outputs' (Insert taken) tells (at, there, is) (at', there', is') on on' same =
    let one = insert_turn rule placed before input inputs output outputs input.worker at taken on there is in
    let other = insert_turn rule placed' before input inputs output' outputs' input.worker at' taken on' there' is' in
    record {
      after = before + 1;
      outputs_same = is ∙ ap (λ n. insert_output input.worker (n + 1) taken) (one ∙ sym other) ∙ sym is';
      placed_same = take_next placed before taken.batch (subst (λ n. slice_get placed n ≡ Some taken.batch) one there) ∙ ap (λ l. l ++ taken.batch ∷ []) same
          ∙ sym (take_next placed' before taken.batch (subst (λ n. slice_get placed' n ≡ Some taken.batch) other there'));
      turn = IsTurn.makes (ap (λ o. is_placed o.kind) is) (ap (λ o. o.version) is ∙ ap (λ n. n + 1) one) refl;
    }
same_turn rule placed placed' before input inputs output output' outputs outputs' (Tell kind body) tells is is' on on' same = record {
  after = before;
  outputs_same = is ∙ sym is';
  placed_same = same;
  turn = IsTurn.no_call (ap (λ o. is_call o.kind) is ∙ tells.not_called) (ap (λ o. is_placed o.kind) is ∙ tells.not_placed) refl;
}

-- ---- all outputs

one_rest : (rule : Rule) (placed placed' : List Batch) (before : ℕ) (inputs : List Input) (outputs outputs' : List Output) → GoesOn rule 1 placed before inputs outputs → GoesOn rule 1 placed' before inputs outputs' → take before placed ≡ take before placed' → outputs ≡ outputs'
one_rest rule placed placed' before [] [] [] on on' same = refl
one_rest rule placed placed' before [] [] (output' ∷ outputs') on on' same = absurd on'.each
one_rest rule placed placed' before [] (output ∷ outputs) outputs' on on' same = absurd on.each
one_rest rule placed placed' before (input ∷ inputs) [] outputs' on on' same = absurd on.each
one_rest rule placed placed' before (input ∷ inputs) (output ∷ outputs) [] on on' same = absurd on'.each
one_rest rule placed placed' before (input ∷ inputs) (output ∷ outputs) (output' ∷ outputs') on on' same =
    let for' = on.each.0 in
    let other = on'.each.0 in
    let says' = subst (λ s. IsOutputOf rule placed' input s output') (one_step input other.step for'.step other.does for'.does) other.says in
    let head = same_turn rule placed placed' before input inputs output output' outputs outputs' for'.step (tells_no_call input for'.step for'.does) for'.says says' on on' same in
    let turn' = subst (IsTurn before head.after) head.outputs_same head.turn in
    let rest = one_rest rule placed placed' head.after inputs outputs outputs' (goes_after rule placed before head.after input inputs output outputs on head.turn) (goes_after rule placed' before head.after input inputs output' outputs' on' turn') head.placed_same in
    λ i. head.outputs_same i ∷ rest i

query_first : (worker version : ℕ) (reply : Option (List ℕ)) → IsFrom 0 (query_output worker version reply)
query_first worker version None = record { call = λ yes'. omega arith; placed = λ yes'. absurd (false≢true yes') }
query_first worker version (Some octets) = record { call = λ yes'. omega arith; placed = λ yes'. absurd (false≢true yes') }

step_first : (rule : Rule) (placed : List Batch) (input : Input) (step : Step) (output : Output) → TellsNoCall step → IsOutputOf rule placed input step output → IsFrom 0 output
step_first rule placed input (Query question) output tells (version, within, is) = subst (IsFrom 0) (sym is) (query_first input.worker version (rule (held_of (take version placed)) question input.now))
step_first rule placed input (Insert taken) output tells (before, at, is) = subst (IsFrom 0) (sym is) (record { call = λ yes'. omega arith; placed = λ yes'. omega arith })
step_first rule placed input (Tell kind body) output tells is = subst (IsFrom 0) (sym is) (record { call = λ yes'. omega arith; placed = λ yes'. absurd (false≢true (sym tells.not_placed ∙ yes')) })

all_first : (rule : Rule) (workers : ℕ) (placed : List Batch) (inputs : List Input) (outputs : List Output) → AllZip (IsFor rule workers placed) inputs outputs → All (IsFrom 0) outputs
all_first rule workers placed [] [] each = All-nil (IsFrom 0)
all_first rule workers placed [] (output ∷ outputs) each = absurd each
all_first rule workers placed (input ∷ inputs) [] each = absurd each
all_first rule workers placed (input ∷ inputs) (output ∷ outputs) each =
    All-cons (IsFrom 0) output outputs (step_first rule placed input each.0.step output (tells_no_call input each.0.step each.0.does) each.0.says) (all_first rule workers placed inputs outputs each.1)

goes_whole : (rule : Rule) (placed : List Batch) (inputs : List Input) (outputs : List Output) → Fits rule inputs 1 placed outputs → GoesOn rule 1 placed 0 inputs outputs
goes_whole rule placed inputs outputs fits = record { each = fits.each; versions = λ version above. fits.versions version (omega (arith, above)); order = fits.order; from = all_first rule 1 placed inputs outputs fits.each }

pub has_one_output : HasOneOutput
has_one_output rule inputs placed placed' outputs outputs' fits fits' = one_rest rule placed placed' 0 inputs outputs outputs' (goes_whole rule placed inputs outputs fits) (goes_whole rule placed' inputs outputs' fits') refl

pub has_one_replay : HasOneReplay
has_one_replay octets output output' one other =
    let inputs = inputs_have_one.whole one.inputs other.inputs one.frames.valid other.frames.valid (sym one.frames.spelled ∙ other.frames.spelled) in
    let fits = subst (λ l. Fits reply_in l 1 one.placed one.outputs) inputs one.fits in
    one.written ∙ ap outputs_spelling (has_one_output reply_in other.inputs one.placed other.placed one.outputs other.outputs fits other.fits) ∙ sym other.written
