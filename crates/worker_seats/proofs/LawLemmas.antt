-- The shifts of all workers make one history.
use Rattle.std.proofs.Common.{◌≡◌, ℕ, zero, suc, ◌+◌, ◌-◌, ◌<◌, ◌≤◌, ◌^◌, Bool, true, false, ◌&&◌, ◌==◌, cond, List, [], ◌∷◌, ◌++◌, length, map, get_or, refl, sym, ◌∙◌, ap, subst, arith, zero-add}
use Rattle.std.specs.List.{All, AllZip, AllPairs, flat_map, count_by}
use Rattle.std.proofs.lemmas.Bool.Decides.{nat_tests}
use Rattle.std.proofs.lemmas.List.Elements.{All-nil, All-cons, All-head, All-tail}
use Rattle.std.proofs.lemmas.List.Sums.{sum_by-append, sum_by-cons}
use Rattle.std.proofs.lemmas.List.{length-map, get_or-map}
use Rattle.facts.proofs.Lists.{some_of}
use mathlib.Core.List.{IsPrefix}
use Rattle.denial_records.specs.declared.batch.Batch.{Batch}
use Rattle.cache_meaning.specs.Held.{Held}
use Rattle.cache_versions.specs.declared.state.State.{Ghosts}
use Rattle.cache_versions.specs.declared.seat.Seat.{Seat}
use Rattle.cache_versions.specs.Hands.{AreAllBelow, times}
use Rattle.cache_versions.specs.Seats.{places_by, seen_by}
use Rattle.replay_meaning.specs.Frame.{Input}
use Rattle.replay_meaning.specs.OutFrame.{Output}
use Rattle.replay_meaning.specs.Fits.{Rule, Fits, IsFor, IsInOrder, is_placed, places}
use Rattle.replay_meaning.specs.Replay.{SpellsFrames}
use Rattle.worker_seats.specs.Answer.{AreFewEnough, IsAnswered}
use Rattle.worker_seats.specs.Answering.{rule_of}
use Rattle.worker_seats.specs.OneFrame.{places_of}
use Rattle.worker_seats.specs.Shift.{IsInTurn, IsShift}
use Rattle.worker_seats.specs.Workers.{HasSameWorker, HaveWorked, inputs_of, outputs_of}
use Rattle.worker_seats.specs.Laws.{AreShifts}
use Rattle.worker_seats.specs.WalkReplay.{IsReplayBy}
use Rattle.resolver.specs.declared.answering.Answering.{Answering}
use Rattle.cache_versions.proofs.Fronts.{prefix_length}
use Rattle.worker_seats.proofs.AnswerLemmas.{answered_more, placed_above, answered_for}
use Rattle.worker_seats.proofs.OwnLemmas.{zip_own, pairs_own, parts_sum, parts_few, at_least}
use Rattle.worker_seats.proofs.WalkReplayLemmas.{replay_by}

-- ---- places

abbrev IsAbove : Output → Type 0
IsAbove output = is_placed output.kind ≡ true → 1 ≤ output.version

shifted_test : (version place : ℕ) → 1 ≤ version → ((version - 1) == place) ≡ (version == (place + 1))
shifted_test version place above = grind (arith, nat_tests)

places_one : (place : ℕ) (output : Output) → IsAbove output → (b : Bool) → is_placed output.kind ≡ b → times place (places_of output) ≡ cond (places (place + 1) output) 1 0
places_one place output above true is =
    ap (λ (b : Bool). times place (cond b ((output.version - 1) ∷ []) [])) is
    ∙ zero-add (cond ((output.version - 1) == place) 1 0)
    ∙ ap (λ (b : Bool). cond {A = ℕ} b 1 0) (shifted_test output.version place (above is))
    ∙ sym (ap (λ (b : Bool). cond {A = ℕ} (b && (output.version == (place + 1))) 1 0) is)
places_one place output above false is =
    ap (λ (b : Bool). times place (cond b ((output.version - 1) ∷ []) [])) is
    ∙ sym (ap (λ (b : Bool). cond {A = ℕ} (b && (output.version == (place + 1))) 1 0) is)

-- each place is told as often as its version
times_told : (place : ℕ) (outputs : List Output) → All IsAbove outputs → times place (flat_map places_of outputs) ≡ count_by (places (place + 1)) outputs
times_told place [] above = refl
times_told place (output ∷ outputs) above =
    sum_by-append (λ p. cond (p == place) 1 0) (places_of output) (flat_map places_of outputs)
    ∙ ap (λ n. n + times place (flat_map places_of outputs)) (places_one place output (All-head IsAbove output outputs above) (is_placed output.kind) refl)
    ∙ ap (λ n. cond (places (place + 1) output) 1 0 + n) (times_told place outputs (All-tail IsAbove output outputs above))
    ∙ sym (sum_by-cons (λ o. cond (places (place + 1) o) 1 0) output outputs)

-- ---- two lists place by place

pub zip_weaker : {X Y : Type 0} (R S : X → Y → Type 0) → ((x : X) (y : Y) → R x y → S x y) → (xs : List X) (ys : List Y) → AllZip R xs ys → AllZip S xs ys
zip_weaker R S f [] [] all = tt
zip_weaker R S f [] (y ∷ ys) all = absurd all
zip_weaker R S f (x ∷ xs) [] all = absurd all
zip_weaker R S f (x ∷ xs) (y ∷ ys) all = (f x y all.0, zip_weaker R S f xs ys all.1)

-- with what holds of the elements of the first list
zip_left : {X Y : Type 0} (P : X → Type 0) (R S : X → Y → Type 0) → ((x : X) (y : Y) → P x → R x y → S x y) → (xs : List X) (ys : List Y) → All P xs → AllZip R xs ys → AllZip S xs ys
zip_left P R S f [] [] ps all = tt
zip_left P R S f [] (y ∷ ys) ps all = absurd all
zip_left P R S f (x ∷ xs) [] ps all = absurd all
zip_left P R S f (x ∷ xs) (y ∷ ys) ps all = (f x y (All-head P x xs ps) all.0, zip_left P R S f xs ys (All-tail P x xs ps) all.1)

-- what holds of the second list's elements
zip_right : {X Y : Type 0} (P : X → Type 0) (Q : Y → Type 0) (R : X → Y → Type 0) → ((x : X) (y : Y) → P x → R x y → Q y) → (xs : List X) (ys : List Y) → All P xs → AllZip R xs ys → All Q ys
zip_right P Q R f [] [] ps all = All-nil Q
zip_right P Q R f [] (y ∷ ys) ps all = absurd all
zip_right P Q R f (x ∷ xs) [] ps all = absurd all
zip_right P Q R f (x ∷ xs) (y ∷ ys) ps all = All-cons Q y ys (f x y (All-head P x xs ps) all.0) (zip_right P Q R f xs ys (All-tail P x xs ps) all.1)

-- what stands in a list doesn't hang on what stands for a missing element
pub get_or_same : {X : Type 0} (xs : List X) (k : ℕ) (d e : X) → k < length xs → get_or xs k d ≡ get_or xs k e
get_or_same [] k d e lt = absurd (omega arith)
get_or_same (x ∷ xs) zero d e lt = refl
get_or_same (x ∷ xs) (suc k) d e lt = get_or_same xs k d e (omega arith)

-- ---- all shifts together

abbrev pub worker_in : Input → ℕ
worker_in input = input.worker

abbrev pub worker_out : Output → ℕ
worker_out output = output.worker

module _ (rule : Rule) (workers : ℕ) (journal : List Batch) (inputs : List Input) (outputs : List Output) (few : length inputs < 2 ^ 32) (shifts : AreShifts rule workers journal inputs outputs) where
  -- no more batches were placed than there are frames
  journal_few : AreFewEnough journal
  journal_few =
      let dealt = at_least (length journal) (flat_map (λ (p : List ℕ). p) shifts.placed) (λ place within. let once = (shifts.once place).0 within in omega (arith, once)) in
      let parts = parts_few worker_in 0 shifts.placed inputs (λ worker d lt.
      let one = shifts.few worker (omega (arith, lt, shifts.all)) in
      omega (arith, one, ap length (get_or_same shifts.placed worker d [] lt), ap (λ w. length (inputs_of w inputs)) (zero-add worker))) in
      omega (arith, dealt, parts, few)

  shift_of : (worker : ℕ) → worker < workers → IsShift rule (shifts.seen worker) (get_or shifts.placed worker []) (inputs_of worker inputs) (outputs_of worker outputs)
  shift_of worker below = shifts.shifts worker below (omega (arith, journal_few, prefix_length (shifts.seen worker) journal (shifts.begins worker below)))

  answered : AllZip (IsAnswered rule journal) inputs outputs
  answered =
      zip_own worker_in worker_out (IsAnswered rule journal) workers inputs outputs shifts.below shifts.same
      (λ worker below. zip_weaker (IsAnswered rule (shifts.seen worker)) (IsAnswered rule journal) (λ input output. answered_more rule (shifts.seen worker) journal input output (shifts.begins worker below)) (inputs_of worker inputs) (outputs_of worker outputs) (shift_of worker below).each)

  below_out : All (λ output. output.worker < workers) outputs
  below_out = zip_right (λ input. input.worker < workers) (λ output. output.worker < workers) HasSameWorker (λ input output below same. subst (λ n. n < workers) (sym same) below) inputs outputs shifts.below shifts.same

  above : All IsAbove outputs
  above = zip_right (λ input. Unit {0}) IsAbove (IsAnswered rule journal) (λ input output u. placed_above rule journal input output) inputs outputs (λ k d lt. tt) answered

  part_is : (worker : ℕ) (d : List ℕ) → worker < length shifts.placed → get_or shifts.placed worker d ≡ flat_map places_of (outputs_of (0 + worker) outputs)
  part_is worker d lt =
      get_or_same shifts.placed worker d [] lt
      ∙ (shift_of worker (omega (arith, lt, shifts.all))).places
      ∙ ap (λ w. flat_map places_of (outputs_of w outputs)) (sym (zero-add worker))

  -- each place below the journal's length is told once
  told_once : (place : ℕ) → place < length journal → times place (flat_map places_of outputs) ≡ 1
  told_once place within =
      sym (parts_sum worker_out places_of (λ (p : List ℕ). p) (λ p. cond (p == place) 1 0) 0 shifts.placed outputs
      (λ k d lt. (omega arith, let b = below_out k d lt in omega (arith, b, shifts.all)))
      (λ k d lt. part_is k d lt))
      ∙ (shifts.once place).0 within

  versions : (version : ℕ) → 1 ≤ version → version ≤ length journal → count_by (places version) outputs ≡ 1
  versions version least most =
      let same : (version - 1) + 1 ≡ version = omega (arith, least) in
      subst (λ n. count_by (places n) outputs ≡ 1) same (sym (times_told (version - 1) outputs above) ∙ told_once (version - 1) (omega (arith, least, most)))

  each : AllZip (IsFor rule workers journal) inputs outputs
  each = zip_left (λ input. input.worker < workers) (IsAnswered rule journal) (IsFor rule workers journal) (answered_for rule workers journal) inputs outputs shifts.below answered

  order : AllPairs IsInOrder outputs
  order = λ i j d lt lt'.
      let turn = pairs_own worker_out IsInTurn workers outputs below_out (λ worker below. (shift_of worker below).order) i j d lt lt' in
      record {
        never_back = λ same. (turn same).never_back;
        rises = λ same. (turn same).rises;
      }

  pub all_fit : Fits rule inputs workers journal outputs
  all_fit = record { each = each; versions = versions; order = order }

-- ---- the seats of a new cache that was closed

module _ {g : Ghosts Held Batch (Unit {0})} (rule : Rule) where
  flat_of_map : (seats : List (Seat Held Batch (Unit {0}) g)) → flat_map (λ (p : List ℕ). p) (map places_by seats) ≡ flat_map places_by seats
  flat_of_map [] = refl
  flat_of_map (s ∷ seats) = ap (λ l. places_by s ++ l) (flat_of_map seats)

  abbrev seen_at : List (Seat Held Batch (Unit {0}) g) → ℕ → List Batch
  seen_at after worker = get_or (map seen_by after) worker []

  pub shifts_of : (before after : List (Seat Held Batch (Unit {0}) g)) (journal : List Batch) (inputs : List Input) (octets : List ℕ)
      → All (λ input. input.worker < length before) inputs → length after ≡ length before → All (λ seat. places_by seat ≡ []) before
      → All (λ seat. IsPrefix (seen_by seat) journal) after → AreAllBelow (length journal) (flat_map places_by after)
      → (worked : HaveWorked rule before after inputs octets) → AreShifts rule (length before) journal inputs worked.outputs
  shifts_of before after journal inputs octets below all fresh seen once worked = record {
    below = below;
    same = worked.same;
    seen = seen_at after;
    placed = map places_by after;
    all = length-map after places_by ∙ all;
    begins = λ worker lt.
        let d = some_of before worker lt in
        let lt' : worker < length after = omega (arith, lt, all) in
        subst (λ l. IsPrefix l journal) (sym (get_or-map seen_by after worker d [] lt')) (seen worker d lt');
    once = subst (AreAllBelow (length journal)) (sym (flat_of_map after)) once;
    few = λ worker lt.
        let d = some_of before worker lt in
        let one = worked.each worker d lt in
        omega (arith, one.few, ap length (placed_at worker d lt));
    shifts = λ worker lt few.
        let d = some_of before worker lt in
        let lt' : worker < length after = omega (arith, lt, all) in
        let one = worked.each worker d lt in
        let seen : seen_by (get_or after worker d) ≡ seen_at after worker = sym (get_or-map seen_by after worker d [] lt') in
        subst (λ l. IsShift rule l (get_or (map places_by after) worker []) (inputs_of worker inputs) (outputs_of worker worked.outputs)) seen
        (subst (λ l. IsShift rule (seen_by (get_or after worker d)) l (inputs_of worker inputs) (outputs_of worker worked.outputs)) (placed_at worker d lt) (one.shift (subst AreFewEnough (sym seen) few)));
  }
    where
      placed_at : (worker : ℕ) (d : Seat Held Batch (Unit {0}) g) (lt : worker < length before) → (worked.each worker d lt).placed ≡ get_or (map places_by after) worker []
      placed_at worker d lt =
          let lt' : worker < length after = omega (arith, lt, all) in
          let one = worked.each worker d lt in
          sym (get_or-map places_by after worker d [] lt' ∙ one.places ∙ ap (λ l. l ++ one.placed) (fresh worker d lt))

module _ {g : Ghosts Held Batch (Unit {0})} where
  -- the octets are a replay's
  pub replay_of : (answering : Answering) (before after : List (Seat Held Batch (Unit {0}) g)) (journal : List Batch) (octets output : List ℕ) (inputs : List Input)
      → SpellsFrames (length before) octets inputs → length inputs < 2 ^ 32 → length after ≡ length before
      → All (λ seat. places_by seat ≡ []) before → All (λ seat. IsPrefix (seen_by seat) journal) after
      → AreAllBelow (length journal) (flat_map places_by after) → HaveWorked (rule_of answering) before after inputs output → IsReplayBy answering (length before) octets output
  replay_of answering before after journal octets output inputs frames few all fresh seen once worked =
      replay_by answering (length before) octets output inputs worked.outputs journal frames worked.written worked.valid
      (all_fit (rule_of answering) (length before) journal inputs worked.outputs few
      (shifts_of (rule_of answering) before after journal inputs output frames.below all fresh seen once worked))
