-- One worker's shift, frame by frame.
use Rattle.std.proofs.Common.{◌≡◌, ℕ, zero, suc, ◌+◌, ◌-◌, ◌^◌, ◌<◌, ◌≤◌, inl, inr, Bool, true, false, cond, ◌==◌, List, [], ◌∷◌, ◌++◌, length, take, get_or, Some, slice_get, refl, sym, ◌∙◌, ap, subst, arith, append_assoc, length-append}
use Rattle.std.specs.List.{AllZip}
use Rattle.std.proofs.lemmas.Bool.{false≢true, ne_eqb}
use Rattle.std.proofs.lemmas.List.{append-nil, append_cancel_left}
use Rattle.std.proofs.lemmas.List.Elements.{All-nil, All-push, filter-append}
use Rattle.std.proofs.lemmas.List.Quantifiers.{all_pairs_push}
use Rattle.std.proofs.lemmas.Slice.Zip.{AllZip-long}
use mathlib.Core.List.{IsPrefix}
use Rattle.denial_records.specs.declared.batch.Batch.{Batch}
use Rattle.cache_meaning.specs.Held.{Held, held_of}
use Rattle.cache_versions.specs.declared.state.State.{Ghosts}
use Rattle.cache_versions.specs.declared.seat.Seat.{Seat}
use Rattle.cache_versions.specs.Seats.{places_by, seen_by}
use Rattle.cache_versions.proofs.Fronts.{prefix_self, prefix_trans, prefix_length}
use Rattle.replay_meaning.specs.Frame.{Input, IsInput, input_spelling}
use Rattle.replay_meaning.specs.OutFrame.{Output, IsOutput, output_spelling}
use Rattle.replay_meaning.specs.Step.{Step, Query, Insert, Tell}
use Rattle.replay_meaning.specs.Fits.{Rule, IsOutputOf, is_call}
use Rattle.replay_meaning.specs.declared.out_frame.OutKind.{OutKind}
use Rattle.replay_meaning.proofs.FrameLemmas.{spelling-push}
use Rattle.replay_meaning.proofs.StepLemmas.{TellsNoCall, tells_no_call}
use Rattle.replay_meaning.proofs.OneOutputLemmas.{placed_calls}
use Rattle.worker_seats.specs.Answer.{AreFewEnough, IsAnswered}
use Rattle.worker_seats.specs.Cuts.{AreCuts}
use Rattle.worker_seats.specs.Frames.{AreSpelled}
use Rattle.worker_seats.specs.OneFrame.{IsCall, IsDone, DoesOneFrame, HasPlacedAtMost, places_of}
use Rattle.worker_seats.specs.Shift.{IsInTurn, IsShift}
use Rattle.worker_seats.specs.Work.{HasPassed, IsWork}
use Rattle.worker_seats.specs.Workers.{HasSameWorker, HasWorked, inputs_of}
use Rattle.worker_seats.specs.declared.cut.Cut.{Cut}
use Rattle.worker_seats.proofs.AnswerLemmas.{answered_more, query_version}
use Rattle.worker_seats.proofs.FramesLemmas.{Walks, next_left, split_next, walk_all}
use Rattle.worker_seats.proofs.LawLemmas.{zip_weaker}
use Rattle.worker_seats.proofs.NotedLemmas.{AreNoted, noted_all, noted_here, noted_input, noted_none, noted_output}
use Rattle.worker_seats.proofs.OwnLemmas.{equal_test}

-- ---- lists

pub zip_push : {X Y : Type 0} (R : X → Y → Type 0) (xs : List X) (ys : List Y) (x : X) (y : Y) → AllZip R xs ys → R x y → AllZip R (xs ++ x ∷ []) (ys ++ y ∷ [])
zip_push R [] [] x y all here = (here, tt)
zip_push R [] (v ∷ ys) x y all here = absurd all
zip_push R (u ∷ xs) [] x y all here = absurd all
zip_push R (u ∷ xs) (v ∷ ys) x y all here = (all.0, zip_push R xs ys x y all.1 here)

-- what holds of each second element, at its place
zip_at : {X Y : Type 0} (R : X → Y → Type 0) (Q : Y → Type 0) → ((x : X) (y : Y) → R x y → Q y) → (xs : List X) (ys : List Y) → AllZip R xs ys → (k : ℕ) (d : Y) → k < length ys → Q (get_or ys k d)
zip_at R Q f [] [] all k d lt = absurd (omega arith)
zip_at R Q f [] (y ∷ ys) all k d lt = absurd all
zip_at R Q f (x ∷ xs) [] all k d lt = absurd all
zip_at R Q f (x ∷ xs) (y ∷ ys) all zero d lt = f x y all.0
zip_at R Q f (x ∷ xs) (y ∷ ys) all (suc k) d lt = zip_at R Q f xs ys all.1 k d (omega arith)

get_below : {X : Type 0} (xs : List X) (k : ℕ) (x : X) → slice_get xs k ≡ Some x → k < length xs
get_below [] k x is = absurd cc
get_below (y ∷ xs) zero x is = omega arith
get_below (y ∷ xs) (suc k) x is = let rest = get_below xs k x is in omega arith

own_push : (worker : ℕ) (inputs : List Input) (input : Input) → input.worker ≡ worker → inputs_of worker (inputs ++ input ∷ []) ≡ inputs_of worker inputs ++ input ∷ []
own_push worker inputs input same =
    filter-append (λ (i : Input). i.worker == worker) inputs (input ∷ [])
    ∙ ap (λ (b : Bool). inputs_of worker inputs ++ cond b (input ∷ []) []) (equal_test input.worker worker same)

other_push : (worker : ℕ) (inputs : List Input) (input : Input) → (input.worker ≡ worker → ⊥) → inputs_of worker (inputs ++ input ∷ []) ≡ inputs_of worker inputs
other_push worker inputs input other =
    filter-append (λ (i : Input). i.worker == worker) inputs (input ∷ [])
    ∙ ap (λ (b : Bool). inputs_of worker inputs ++ cond b (input ∷ []) []) (ne_eqb input.worker worker other)
    ∙ append-nil (inputs_of worker inputs)

-- ---- what an answer tells

-- a frame that makes no call tells of none
tells_none : (kind : OutKind) (output : Output) → is_call kind ≡ false → output.kind ≡ kind → is_call output.kind ≡ true → ⊥
tells_none kind output none kind_is call = false≢true (sym none ∙ sym (ap is_call kind_is) ∙ call)

upto_says : (rule : Rule) (seen : List Batch) (input : Input) (step : Step) (output : Output) → TellsNoCall step → IsOutputOf rule seen input step output → is_call output.kind ≡ true → output.version ≤ length seen
upto_says rule seen input (Query question) output tells (version, within, is) call =
    let same = ap (λ (o : Output). o.version) is ∙ query_version input.worker version (rule (held_of (take version seen)) question input.now) in
    omega (arith, same, within)
upto_says rule seen input (Insert taken) output tells (before, at, is) call =
    let same = ap (λ (o : Output). o.version) is in
    let below = get_below seen before taken.batch at in
    omega (arith, same, below)
upto_says rule seen input (Tell kind body) output tells is call = absurd (tells_none kind output tells.not_called (ap (λ (o : Output). o.kind) is) call)

-- a call's version is among those seen
upto : (rule : Rule) (seen : List Batch) (input : Input) (output : Output) → IsAnswered rule seen input output → is_call output.kind ≡ true → output.version ≤ length seen
upto rule seen input output answered = upto_says rule seen input answered.step output (tells_no_call input answered.step answered.does) answered.says

call_step : (rule : Rule) (seen : List Batch) (input : Input) (step : Step) (output : Output) → TellsNoCall step → IsOutputOf rule seen input step output → is_call output.kind ≡ true → IsCall step
call_step rule seen input (Query question) output tells is call = tt
call_step rule seen input (Insert taken) output tells is call = tt
call_step rule seen input (Tell kind body) output tells is call = tells_none kind output tells.not_called (ap (λ (o : Output). o.kind) is) call

-- ---- a shift

module _ {g : Ghosts Held Batch (Unit {0})} (rule : Rule) where
  in_turn : (before after : Seat Held Batch (Unit {0}) g) (input : Input) (earlier output : Output) → IsPrefix (seen_by before) (seen_by after) → IsDone rule before after input output
      → (is_call earlier.kind ≡ true → earlier.version ≤ length (seen_by before)) → IsInTurn earlier output
  in_turn before after input earlier output begins done within =
      let is_version : is_call output.kind ≡ true → output.version ≡ length (seen_by after) =
      λ call. done.version (call_step rule (seen_by after) input done.answered.step output (tells_no_call input done.answered.step done.answered.does) done.answered.says call) in
      record {
        never_back = λ first second. omega (arith, within first, prefix_length (seen_by before) (seen_by after) begins, is_version second);
        rises = λ first placed. omega (arith, within first, done.rises placed, is_version (placed_calls output.kind placed));
      }

  shift_more : (before after : Seat Held Batch (Unit {0}) g) (placed : List ℕ) (inputs : List Input) (outputs : List Output) (input : Input) (output : Output)
      → IsPrefix (seen_by before) (seen_by after) → IsDone rule before after input output → IsShift rule (seen_by before) placed inputs outputs
      → IsShift rule (seen_by after) (placed ++ places_of output) (inputs ++ input ∷ []) (outputs ++ output ∷ [])
  shift_more before after placed inputs outputs input output begins done shift =
      let each = zip_push (IsAnswered rule (seen_by after)) inputs outputs input output
      (zip_weaker (IsAnswered rule (seen_by before)) (IsAnswered rule (seen_by after)) (λ i o. answered_more rule (seen_by before) (seen_by after) i o begins) inputs outputs shift.each) done.answered in
      record {
        each = each;
        order = all_pairs_push IsInTurn outputs output shift.order
            (λ k d lt. in_turn before after input (get_or outputs k d) output begins done
            (zip_at (IsAnswered rule (seen_by before)) (λ o. is_call o.kind ≡ true → o.version ≤ length (seen_by before)) (λ i o. upto rule (seen_by before) i o) inputs outputs shift.each k d lt));
        places = ap (λ l. l ++ places_of output) shift.places ∙ sym (spelling-push places_of outputs output);
      }

  pub work_none : (worker : ℕ) (seat : Seat Held Batch (Unit {0}) g) (octets : List ℕ) → octets ≡ [] → IsWork rule worker seat seat [] octets
  work_none worker seat octets none = record {
    outputs = [];
    written = none;
    valid = All-nil IsOutput;
    own = All-nil (λ output. output.worker ≡ worker);
    worked = record {
      begins = prefix_self (seen_by seat);
      same = tt;
      placed = [];
      places = sym (append-nil (places_by seat));
      few = omega arith;
      shift = λ few. record { each = tt; order = λ i j d lt lt'. absurd (omega arith); places = refl };
    };
  }

  work_other : (worker : ℕ) (before after : Seat Held Batch (Unit {0}) g) (inputs : List Input) (input : Input) (octets : List ℕ) → (input.worker ≡ worker → ⊥) → IsWork rule worker before after inputs octets → IsWork rule worker before after (inputs ++ input ∷ []) octets
  work_other worker before after inputs input octets other work = record {
    outputs = work.outputs;
    written = work.written;
    valid = work.valid;
    own = work.own;
    worked = subst (λ l. HasWorked rule before after l work.outputs) (sym (other_push worker inputs input other)) work.worked;
  }

  -- where the batch stands that the frame has placed, if it has placed one
  record Places (before after : Seat Held Batch (Unit {0}) g) : Type 0 where
    pub own : List ℕ
    pub places : places_by after ≡ places_by before ++ own
    pub one : length own ≤ 1

  places_at_most : (before after : Seat Held Batch (Unit {0}) g) (input : Input) → HasPlacedAtMost before after input → Places before after
  places_at_most before after input (inl same) = record { own = []; places = same ∙ sym (append-nil (places_by before)); one = omega arith }
  places_at_most before after input (inr placed) = record { own = length placed.former ∷ []; places = placed.places; one = omega arith }

  same_places : (before after : Seat Held Batch (Unit {0}) g) (input : Input) (output : Output) (places : Places before after) → IsDone rule before after input output → places_of output ≡ places.own
  same_places before after input output places done = append_cancel_left (places_by before) (places_of output) places.own (sym done.places ∙ places.places)

  module _ (before now after : Seat Held Batch (Unit {0}) g) (inputs : List Input) (outputs : List Output) (input : Input) (octets octets' : List ℕ)
      (begins : IsPrefix (seen_by now) (seen_by after)) (does : DoesOneFrame rule now after input octets octets') (places : Places now after) (worked : HasWorked rule before now inputs outputs) where
    shift_on : AreFewEnough (seen_by after) → IsShift rule (seen_by after) (worked.placed ++ places.own) (inputs ++ input ∷ []) (outputs ++ does.output ∷ [])
    shift_on few =
        let done = does.done few in
        let before_few : AreFewEnough (seen_by now) = omega (arith, few, prefix_length (seen_by now) (seen_by after) begins) in
        subst (λ l. IsShift rule (seen_by after) (worked.placed ++ l) (inputs ++ input ∷ []) (outputs ++ does.output ∷ [])) (same_places now after input does.output places done)
        (shift_more now after worked.placed inputs outputs input does.output begins done (worked.shift before_few))

    worked_more : HasWorked rule before after (inputs ++ input ∷ []) (outputs ++ does.output ∷ [])
    worked_more = record {
      begins = prefix_trans (seen_by before) (seen_by now) (seen_by after) worked.begins begins;
      same = zip_push HasSameWorker inputs outputs input does.output worked.same does.worker;
      placed = worked.placed ++ places.own;
      places = places.places ∙ ap (λ l. l ++ places.own) worked.places ∙ append_assoc (places_by before) worked.placed places.own;
      few = omega (arith, worked.few, places.one, length-append worked.placed places.own, length-append inputs (input ∷ []));
      shift = shift_on;
    }

  work_own : (worker : ℕ) (before now after : Seat Held Batch (Unit {0}) g) (inputs : List Input) (input : Input) (octets octets' : List ℕ) → input.worker ≡ worker → IsPrefix (seen_by now) (seen_by after) → DoesOneFrame rule now after input octets octets' → HasPlacedAtMost now after input → IsWork rule worker before now inputs octets → IsWork rule worker before after (inputs ++ input ∷ []) octets'
  work_own worker before now after inputs input octets octets' same begins does placed work =
      let output = does.output in
      record {
        outputs = work.outputs ++ output ∷ [];
        written = does.writes.written ∙ ap (λ l. l ++ output_spelling output) work.written ∙ sym (spelling-push output_spelling work.outputs output);
        valid = All-push IsOutput work.outputs output work.valid does.writes.valid;
        own = All-push (λ o. o.worker ≡ worker) work.outputs output work.own (does.worker ∙ same);
        worked = subst (λ l. HasWorked rule before after l (work.outputs ++ output ∷ [])) (sym (own_push worker inputs input same))
            (worked_more before now after (inputs_of worker inputs) work.outputs input octets octets' begins does (places_at_most now after input placed) work.worked);
      }

  -- some of the frames are done, the worker's own by so many calls, and the rest spells the others
  pub record IsUnderWay (worker : ℕ) (before now : Seat Held Batch (Unit {0}) g) (inputs : List Input) (rest : List ℕ) (calls : ℕ) (octets : List ℕ) (cuts : List Cut) (passed : ℕ) : Type 0 where
    pub walk : Walks inputs rest
    pub few : calls ≤ length walk.done
    pub work : IsWork rule worker before now walk.done octets
    pub noted : AreNoted worker walk.done work.outputs cuts passed

  pub under_way_none : (worker : ℕ) (seat : Seat Held Batch (Unit {0}) g) (inputs : List Input) (rest octets : List ℕ) (cuts : List Cut) → AreSpelled rest inputs → octets ≡ [] → cuts ≡ [] → IsUnderWay worker seat seat inputs rest 0 octets cuts 0
  unfolding work_none
  under_way_none worker seat inputs rest octets cuts spelled none no_cuts = record {
    walk = record { done = []; left = inputs; split = refl; spelled = spelled };
    few = omega arith;
    work = work_none worker seat octets none;
    noted = subst (λ l. AreNoted worker [] [] l 0) (sym no_cuts) (noted_none worker []);
  }

  module _ (worker : ℕ) (before now : Seat Held Batch (Unit {0}) g) (inputs : List Input) (rest after : List ℕ) (input : Input) (calls : ℕ) (octets : List ℕ) (cuts : List Cut) (passed : ℕ)
      (way : IsUnderWay worker before now inputs rest calls octets cuts passed) (fits : IsInput input) (is : rest ≡ input_spelling input ++ after) where
    abbrev next : (more : List Input) × (way.walk.left ≡ input ∷ more) × AreSpelled after more
    next = next_left way.walk.left rest after input way.walk.spelled fits is

    pub calls_few : length inputs < 2 ^ 32 → calls + 1 < 2 ^ 32
    calls_few few = omega (arith, few, way.few, ap length (split_next inputs rest way.walk input next.0 next.1), length-append (way.walk.done ++ input ∷ []) next.0, length-append way.walk.done (input ∷ []))

    module _ (whole : List ℕ) (here : Cut) (cuts' : List Cut) (passed' : ℕ) (spelled : AreSpelled whole inputs) (from : here.from ≡ length whole - length rest) (place : here.place ≡ length octets) (passes : HasPassed passed here cuts cuts' passed') where
      noted_next : AreNoted worker (way.walk.done ++ input ∷ []) way.work.outputs cuts' passed'
      noted_next = noted_input worker way.walk.done way.work.outputs cuts passed way.noted input here cuts' passed'
          (noted_here worker way.walk.done way.walk.left inputs way.work.outputs whole rest octets here way.walk.split spelled.0 way.walk.spelled.0 way.work.written
          (sym (AllZip-long HasSameWorker (inputs_of worker way.walk.done) way.work.outputs way.work.worked.same)) from place) passes

      pub frame_other : (input.worker ≡ worker → ⊥) → IsUnderWay worker before now inputs after calls octets cuts' passed'
      unfolding work_other
      frame_other other = record {
        walk = record { done = way.walk.done ++ input ∷ []; left = next.0; split = split_next inputs rest way.walk input next.0 next.1; spelled = next.2 };
        few = omega (arith, way.few, length-append way.walk.done (input ∷ []));
        work = work_other worker before now way.walk.done input octets other way.work;
        noted = noted_next;
      }

      pub frame_own : (seat : Seat Held Batch (Unit {0}) g) (octets' : List ℕ) → input.worker ≡ worker → IsPrefix (seen_by now) (seen_by seat) → DoesOneFrame rule now seat input octets octets' → HasPlacedAtMost now seat input → IsUnderWay worker before seat inputs after (calls + 1) octets' cuts' passed'
      unfolding work_own
      frame_own seat octets' same begins does placed = record {
        walk = record { done = way.walk.done ++ input ∷ []; left = next.0; split = split_next inputs rest way.walk input next.0 next.1; spelled = next.2 };
        few = omega (arith, way.few, length-append way.walk.done (input ∷ []));
        work = work_own worker before now seat way.walk.done input octets octets' same begins does placed way.work;
        noted = noted_output worker (way.walk.done ++ input ∷ []) way.work.outputs cuts' passed' noted_next does.output;
      }

  module _ (worker : ℕ) (before now : Seat Held Batch (Unit {0}) g) (inputs : List Input) (rest : List ℕ) (calls : ℕ) (octets : List ℕ) (cuts : List Cut) (passed : ℕ) (way : IsUnderWay worker before now inputs rest calls octets cuts passed)
      (none : (input : Input) (after : List ℕ) → IsInput input → rest ≡ input_spelling input ++ after → ⊥) where
    pub shift_done : IsWork rule worker before now inputs octets
    shift_done = subst (λ l. IsWork rule worker before now l octets) (walk_all inputs rest way.walk none) way.work

    pub cuts_done : AreCuts worker inputs octets cuts
    cuts_done = subst (λ l. AreCuts worker l octets cuts) (walk_all inputs rest way.walk none) (noted_all worker way.walk.done way.work.outputs cuts passed way.noted octets way.work.valid way.work.written)
