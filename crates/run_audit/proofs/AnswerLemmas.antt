-- Pairs in the order of versions, answered one after the other.
use Rattle.std.proofs.Common.{◌≡◌, ℕ, zero, suc, ◌+◌, ◌<◌, ◌≤◌, Bool, true, false, cond, List, [], ◌∷◌, ◌++◌, length, take, get_or, Some, slice_get, refl, sym, ◌∙◌, ap, subst, arith, length-append, append_assoc, add-one}
use Rattle.std.specs.List.{All, AllZip, count_by}
use Rattle.std.specs.List.Sorted.{IsNonDecreasingBy}
use Rattle.std.proofs.Math.Seq.{take-append_seam}
use Rattle.std.proofs.lemmas.Option.{none-some}
use Rattle.std.proofs.lemmas.List.{append-nil, get_or_default, take_all}
use Rattle.std.proofs.lemmas.List.Elements.{All-more, All-get_or}
use Rattle.std.proofs.lemmas.List.Sums.{fold-append, count_by_more_yes, count_by_more_no}
use Rattle.denial_records.specs.declared.batch.Batch.{Batch}
use Rattle.cache_meaning.specs.Held.{Held, nothing_held, held_of}
use Rattle.held_laws.specs.KeyOrder.{kept_after, kept_of}
use Rattle.reply_core.specs.Answered.{reply_in}
use Rattle.replay_meaning.specs.Frame.{Input}
use Rattle.replay_meaning.specs.OutFrame.{Output}
use Rattle.replay_meaning.specs.Step.{Step, Query, Insert, Tell}
use Rattle.replay_meaning.specs.Fits.{IsOutputOf, is_placed, query_output, insert_output}
use Rattle.run_audit.specs.Version.{version_of, output_at}
use Rattle.replay_meaning.proofs.StepLemmas.{TellsNoCall, tells_no_call, one_step}
use Rattle.run_audit.specs.Answering.{placed_by, IsRight, IsWrong}
use Rattle.run_audit.specs.Clauses.{IsAnswer, AreAnswers, placed_in}
use Rattle.run_audit.specs.Pairs.{input_in, output_in, inputs_in, outputs_in, is_put, version_in, rank_of, put_before, AreInTurn}
use Rattle.run_audit.specs.declared.pair.FramePair.{FramePair}
use Rattle.run_audit.proofs.FitLemmas.{query_not_placed, query_version}
use Rattle.run_audit.proofs.PairLemmas.{put_count, zip_from, zip_to}
use Rattle.run_audit.proofs.RowLemmas.{met_version}

-- ---- lists

take_suc : {X : Type 0} (xs : List X) (i : ℕ) (x : X) → slice_get xs i ≡ Some x → take (suc i) xs ≡ take i xs ++ x ∷ []
take_suc [] i x is = absurd (none-some x is)
take_suc (y ∷ xs) zero x is = let same : y ≡ x = cc in ap (λ z. z ∷ []) same
take_suc (y ∷ xs) (suc i) x is = ap (λ l. y ∷ l) (take_suc xs i x is)

take_next : {X : Type 0} (xs : List X) (i : ℕ) (x : X) → slice_get xs i ≡ Some x → take (i + 1) xs ≡ take i xs ++ x ∷ []
take_next xs i x is = ap (λ n. take n xs) (add-one i) ∙ take_suc xs i x is

at_seam : (before more : List Batch) (batch : Batch) → slice_get ((before ++ batch ∷ []) ++ more) (length before) ≡ Some batch
at_seam [] more batch = refl
at_seam (other ∷ before) more batch = at_seam before more batch

pub kept_with : (placed : List Batch) (batch : Batch) → kept_after (kept_of placed) batch ≡ kept_of (placed ++ batch ∷ [])
kept_with placed batch = sym (fold-append kept_after nothing_held placed (batch ∷ []))

-- ---- one pair

-- what is right at a version is so in all that goes on from it
right_says : (placed more : List Batch) (input : Input) (step : Step) → IsOutputOf reply_in ((placed ++ placed_by step) ++ more) input step (output_at (version_of placed) input step)
right_says placed more input (Query question) = (
  length placed,
  omega (arith, length-append (placed ++ []) more, length-append placed []),
  λ i. query_output input.worker (length placed) (reply_in (held_of (same i)) question input.now),
)
  where
    same : placed ≡ take (length placed) ((placed ++ []) ++ more)
    same = sym (take-append_seam placed more) ∙ ap (λ l. take (length placed) (l ++ more)) (sym (append-nil placed))
right_says placed more input (Insert taken) = (length placed, at_seam placed more taken.batch, refl)
right_says placed more input (Tell kind body) = refl

right_answer : (placed more after : List Batch) (input : Input) (output : Output) → IsRight placed input output more → IsAnswer ((placed ++ more) ++ after) input output
right_answer placed more after input output right = record {
  step = right.step;
  does = right.does;
  says = subst (λ l. IsOutputOf reply_in ((placed ++ l) ++ after) input right.step output) right.brings
      (subst (IsOutputOf reply_in ((placed ++ placed_by right.step) ++ after) input right.step) (sym right.is) (right_says placed after input right.step));
}

-- what is placed is told by the output frame's kind
put_by : (placed : List Batch) (input : Input) (step : Step) → TellsNoCall step → cond (is_placed (output_at (version_of placed) input step).kind) 1 0 ≡ length (placed_by step)
put_by placed input (Query question) tells = ap (λ b. cond b 1 0) (query_not_placed input.worker (length placed) (reply_in (held_of placed) question input.now))
put_by placed input (Insert taken) tells = refl
put_by placed input (Tell kind body) tells = ap (λ b. cond b 1 0) tells.not_placed

right_put : (placed more : List Batch) (input : Input) (output : Output) → IsRight placed input output more → cond (is_placed output.kind) 1 0 ≡ length more
right_put placed more input output right =
    ap (λ o. cond (is_placed o.kind) 1 0) right.is ∙ put_by placed input right.step (tells_no_call input right.step right.does) ∙ ap length right.brings

-- other batches, by which the output frame is the input frame's too, have the placed ones next
next_by : (placed others : List Batch) (input : Input) (output : Output) (step : Step) → output ≡ output_at (version_of placed) input step → IsOutputOf reply_in others input step output → take (length placed) others ≡ placed → take (length (placed ++ placed_by step)) others ≡ placed ++ placed_by step
next_by placed others input output (Query question) is says same =
    ap (λ l. take (length l) others) (append-nil placed) ∙ same ∙ sym (append-nil placed)
next_by placed others input output (Insert taken) is (before, at, is') same =
    let number : before ≡ length placed = omega (arith, ap (λ o. o.version) (sym is' ∙ is)) in
    ap (λ n. take n others) (length-append placed (taken.batch ∷ []))
    ∙ take_next others (length placed) taken.batch (subst (λ n. slice_get others n ≡ Some taken.batch) number at)
    ∙ ap (λ l. l ++ taken.batch ∷ []) same
next_by placed others input output (Tell kind body) is says same =
    ap (λ l. take (length l) others) (append-nil placed) ∙ same ∙ sym (append-nil placed)

right_next : (placed more others : List Batch) (input : Input) (output : Output) → IsRight placed input output more → IsAnswer others input output → take (length placed) others ≡ placed → take (length (placed ++ more)) others ≡ placed ++ more
right_next placed more others input output right answer same =
    let says = subst (λ s. IsOutputOf reply_in others input s output) (one_step input answer.step right.step answer.does right.does) answer.says in
    subst (λ l. take (length (placed ++ l)) others ≡ placed ++ l) right.brings (next_by placed others input output right.step right.is says same)

-- an output frame that is the input frame's by batches that begin with the placed ones, at their version, is that of the version
answer_at : (placed others : List Batch) (input : Input) (output : Output) (step : Step) → TellsNoCall step → IsOutputOf reply_in others input step output → take (length placed) others ≡ placed
    → (is_placed output.kind ≡ true → output.version ≡ length placed + 1) → (is_placed output.kind ≡ false → output.version ≤ length others → output.version ≡ length placed)
    → output ≡ output_at (version_of placed) input step
answer_at placed others input output (Query question) tells (version, within, is) same turn met =
    let number : output.version ≡ version = ap (λ o. o.version) is ∙ query_version input.worker version _ in
    let put : is_placed output.kind ≡ false = ap (λ o. is_placed o.kind) is ∙ query_not_placed input.worker version _ in
    let at : version ≡ length placed = sym number ∙ met put (omega (arith, number, within)) in
    is ∙ ap (λ v. query_output input.worker v (reply_in (held_of (take v others)) question input.now)) at
    ∙ ap (λ l. query_output input.worker (length placed) (reply_in (held_of l) question input.now)) same
answer_at placed others input output (Insert taken) tells (before, at, is) same turn met =
    let number : output.version ≡ before + 1 = ap (λ o. o.version) is in
    let put : is_placed output.kind ≡ true = ap (λ o. is_placed o.kind) is in
    let where_at : before ≡ length placed = omega (arith, number, turn put) in
    is ∙ ap (λ n. insert_output input.worker (n + 1) taken) where_at
answer_at placed others input output (Tell kind body) tells is same turn met = is

-- ---- the walk

-- so many pairs are answered where these batches are placed, of which this is the version
pub record HasAnswered (pairs : List FramePair) (n : ℕ) (placed : List Batch) (store : Held) (number : ℕ) : Type 0 where
  pub store_is : store ≡ kept_of placed
  pub number_is : number ≡ length placed
  pub few : number ≤ n
  pub counted : length placed ≡ put_before n pairs
  pub each : (more : List Batch) → All (λ p. IsAnswer (placed ++ more) (input_in p) (output_in p)) (take n pairs)
  pub only : (others : List Batch) → All (λ p. IsAnswer others (input_in p) (output_in p)) pairs → take (length placed) others ≡ placed

pub answered_none : (pairs : List FramePair) → HasAnswered pairs 0 [] nothing_held 0
answered_none pairs = record {
  store_is = refl;
  number_is = refl;
  few = omega arith;
  counted = refl;
  each = λ more k d lt. absurd (omega (arith, lt));
  only = λ others each. refl;
}

module _ (pairs : List FramePair) (n : ℕ) (pair : FramePair) (within : n < length pairs) (at : pair ≡ get_or pairs n pair) where
  put_more : (m : ℕ) → cond (is_put pair) 1 0 ≡ m → put_before (n + 1) pairs ≡ put_before n pairs + m
  put_more m is = by (is_put pair) refl
    where
      by : (b : Bool) → is_put pair ≡ b → put_before (n + 1) pairs ≡ put_before n pairs + m
      by true put =
          let one : 1 ≡ m = ap (λ b. cond b 1 0) (sym put) ∙ is in
          let more = count_by_more_yes is_put pairs n pair within (ap is_put (sym at) ∙ put) in
          omega (arith, one, more)
      by false put =
          let none : 0 ≡ m = ap (λ b. cond b 1 0) (sym put) ∙ is in
          let more = count_by_more_no is_put pairs n pair within (ap is_put (sym at) ∙ put) in
          omega (arith, none, more)

  -- a right pair more
  pub answered_more : (placed : List Batch) (store store' : Held) (number number' : ℕ) (has : HasAnswered pairs n placed store number) (more : List Batch) → IsRight placed (input_in pair) (output_in pair) more
      → store' ≡ kept_of (placed ++ more) → number' ≡ number + length more → length more ≤ 1 → HasAnswered pairs (n + 1) (placed ++ more) store' number'
  answered_more placed store store' number number' has more right store_is number_is small = record {
    store_is = store_is;
    number_is = omega (arith, number_is, has.number_is, length-append placed more);
    few = omega (arith, number_is, has.few, small);
    counted = omega (arith, length-append placed more, has.counted, put_more (length more) (right_put placed more (input_in pair) (output_in pair) right));
    each = λ after. All-more (λ p. IsAnswer ((placed ++ more) ++ after) (input_in p) (output_in p)) pairs n pair within
        (subst (λ l. All (λ p. IsAnswer l (input_in p) (output_in p)) (take n pairs)) (sym (append_assoc placed more after)) (has.each (more ++ after)))
        (subst (λ p. IsAnswer ((placed ++ more) ++ after) (input_in p) (output_in p)) at (right_answer placed more after (input_in pair) (output_in pair) right));
    only = λ others each. right_next placed more others (input_in pair) (output_in pair) right
        (subst (λ p. IsAnswer others (input_in p) (output_in p)) (sym at) (All-get_or (λ p. IsAnswer others (input_in p) (output_in p)) pairs n pair within each)) (has.only others each);
  }

  -- a wrong pair
  pub answered_wrong : IsNonDecreasingBy rank_of pairs → AreInTurn pairs → (placed : List Batch) (store : Held) (number : ℕ) → HasAnswered pairs n placed store number → IsWrong placed (input_in pair) (output_in pair) → AreAnswers (inputs_in pairs) (outputs_in pairs) → ⊥
  answered_wrong ranked turns placed store number has wrong answers =
      let all = zip_to (IsAnswer answers.placed) pairs answers.each in
      let same = has.only answers.placed all in
      let answer = subst (λ p. IsAnswer answers.placed (input_in p) (output_in p)) (sym at) (All-get_or (λ p. IsAnswer answers.placed (input_in p) (output_in p)) pairs n pair within all) in
      let turn : is_put pair ≡ true → version_in pair ≡ length placed + 1 = λ put.
      ap version_in at ∙ turns n pair within (ap is_put (sym at) ∙ put) ∙ ap (λ m. m + 1) (sym has.counted) in
      let met : is_put pair ≡ false → version_in pair ≤ length answers.placed → version_in pair ≡ length placed = λ put le.
      ap version_in at ∙ met_version version_in is_put pairs ranked (λ i d low inside. turns i d inside) n pair within (ap is_put (sym at) ∙ put)
      (omega (arith, ap version_in (sym at), le, answers.number, put_count pairs)) ∙ sym has.counted in
      wrong answer.step answer.does
      (answer_at placed answers.placed (input_in pair) (output_in pair) answer.step (tells_no_call (input_in pair) answer.step answer.does) answer.says same turn met)

-- all pairs are answered
pub answered_all : (pairs : List FramePair) (placed : List Batch) (store : Held) (number : ℕ) → HasAnswered pairs (length pairs) placed store number → (length placed ≡ placed_in (outputs_in pairs)) × AllZip (IsAnswer placed) (inputs_in pairs) (outputs_in pairs)
answered_all pairs placed store number has =
    let whole : take (length pairs) pairs ≡ pairs = take_all (length pairs) pairs (omega arith) in (
      has.counted ∙ ap (count_by is_put) whole ∙ sym (put_count pairs),
      zip_from (IsAnswer placed) pairs (subst (λ l. All (λ p. IsAnswer l (input_in p) (output_in p)) pairs) (append-nil placed) (subst (λ l. All (λ p. IsAnswer (placed ++ []) (input_in p) (output_in p)) l) whole (has.each []))),
    )
