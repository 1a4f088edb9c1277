-- What one worker did of the frames is all that the cache was closed with, and its seat had seen that.
use Rattle.std.proofs.Common.{◌≡◌, ℕ, ◌+◌, ◌-◌, ◌<◌, ◌≤◌, ◌^◌, ◌==◌, Bool, true, false, cond, List, [], ◌∷◌, ◌++◌, length, get_or, refl, sym, ◌∙◌, ap, subst, arith, take, set, zero-add}
use Rattle.std.specs.List.{All, AllZip, flat_map}
use Rattle.std.proofs.lemmas.Bool.{false≢true, ne_eqb}
use Rattle.std.proofs.lemmas.List.{append-nil}
use Rattle.std.proofs.lemmas.List.Elements.{All-nil, All-cons, All-head, All-tail, All-append}
use Rattle.std.proofs.lemmas.List.Sums.{count_by-le-length, length-filter, sum_by-cons}
use Rattle.std.proofs.lemmas.Option.{slice_get_within}
use mathlib.Core.List.{IsPrefix}
use Rattle.denial_records.specs.declared.batch.Batch.{Batch}
use Rattle.cache_meaning.specs.Held.{Held, held_of}
use Rattle.cache_versions.specs.declared.state.State.{Ghosts}
use Rattle.cache_versions.specs.declared.seat.Seat.{Seat}
use Rattle.cache_versions.specs.Hands.{AreAllBelow, times}
use Rattle.cache_versions.specs.Seats.{places_by, seen_by}
use Rattle.cache_versions.proofs.Fronts.{prefix_length, prefix_trans, prefix_whole}
use Rattle.replay_meaning.specs.Frame.{Input}
use Rattle.replay_meaning.specs.OutFrame.{Output}
use Rattle.replay_meaning.specs.Step.{Step, Query, Insert, Tell}
use Rattle.replay_meaning.specs.Fits.{Rule, Fits, IsOutputOf, is_placed}
use Rattle.replay_meaning.proofs.StepLemmas.{TellsNoCall, tells_no_call}
use Rattle.reply_core.specs.Answered.{reply_in}
use Rattle.worker_seats.specs.Answer.{IsAnswered}
use Rattle.worker_seats.specs.OneFrame.{places_of}
use Rattle.worker_seats.specs.Shift.{IsShift}
use Rattle.worker_seats.specs.Workers.{HaveWorked, inputs_of, outputs_of}
use Rattle.worker_seats.proofs.AnswerLemmas.{query_places_none}
use Rattle.worker_seats.proofs.LawLemmas.{all_fit, shifts_of}
use Rattle.worker_seats.proofs.OwnLemmas.{at_least}
use Rattle.running.specs.Connections.{ArePlacedBy}

-- ---- where a frame's batch stands was seen

stands_within : (rule : Rule) (seen : List Batch) (input : Input) (step : Step) (output : Output) → TellsNoCall step → IsOutputOf rule seen input step output → is_placed output.kind ≡ true → output.version - 1 < length seen
stands_within rule seen input (Query question) output tells (version, most, is) placed =
    let none = query_places_none input.worker version (rule (held_of (take version seen)) question input.now) in
    absurd (false≢true (sym none ∙ sym (ap (λ (o : Output). is_placed o.kind) is) ∙ placed))
stands_within rule seen input (Insert taken) output tells (before, at, is) placed =
    let version = ap (λ (o : Output). o.version) is in
    let within = slice_get_within seen before taken.batch at in
    omega (arith, version, within)
stands_within rule seen input (Tell kind body) output tells is placed = absurd (false≢true (sym tells.not_placed ∙ sym (ap (λ (o : Output). is_placed o.kind) is) ∙ placed))

abbrev AreBelow : ℕ → List ℕ → Type 0
AreBelow most places = All (λ place. place < most) places

told_below : (most : ℕ) (output : Output) → (is_placed output.kind ≡ true → output.version - 1 < most) → (b : Bool) → is_placed output.kind ≡ b → AreBelow most (places_of output)
told_below most output below true is =
    subst (λ (b : Bool). AreBelow most (cond b ((output.version - 1) ∷ []) [])) (sym is)
    (All-cons (λ place. place < most) (output.version - 1) [] (below is) (All-nil (λ place. place < most)))
told_below most output below false is =
    subst (λ (b : Bool). AreBelow most (cond b ((output.version - 1) ∷ []) [])) (sym is) (All-nil (λ place. place < most))

all_below : (rule : Rule) (seen : List Batch) (inputs : List Input) (outputs : List Output) → AllZip (IsAnswered rule seen) inputs outputs → AreBelow (length seen) (flat_map places_of outputs)
all_below rule seen [] [] all = All-nil (λ place. place < length seen)
all_below rule seen [] (output ∷ outputs) all = absurd all
all_below rule seen (input ∷ inputs) [] all = absurd all
all_below rule seen (input ∷ inputs) (output ∷ outputs) all =
    All-append (λ place. place < length seen) (places_of output) (flat_map places_of outputs)
    (told_below (length seen) output (stands_within rule seen input all.0.step output (tells_no_call input all.0.step all.0.does) all.0.says) (is_placed output.kind) refl)
    (all_below rule seen inputs outputs all.1)

-- what isn't below the most isn't among them
none_above : (place most : ℕ) (places : List ℕ) → most ≤ place → AreBelow most places → times place places ≡ 0
none_above place most [] above below = refl
none_above place most (p ∷ places) above below =
    let here = All-head (λ q. q < most) p places below in
    sum_by-cons (λ q. cond (q == place) 1 0) p places
    ∙ ap (λ (b : Bool). cond b 1 0 + times place places) (ne_eqb p place (λ same. omega (arith, same, here, above)))
    ∙ zero-add (times place places)
    ∙ none_above place most places above (All-tail (λ q. q < most) p places below)

-- so where each place below the length is among them, the length is no more
no_more : (count most : ℕ) (places : List ℕ) → AreAllBelow count places → AreBelow most places → count ≤ most
no_more count most places once below =
    let none = none_above most most places (omega arith) below in
    let apart : most < count → ⊥ = λ lt. let here = (once most).0 lt in omega (arith, here, none) in
    omega (arith, apart)

-- ---- the one worker's seat

module _ {g : Ghosts Held Batch (Unit {0})} (fresh worked served : Seat Held Batch (Unit {0}) g) (journal : List Batch) (inputs : List Input) (octets : List ℕ)
    (below : All (λ input. input.worker < 1) inputs) (few : length inputs < 2 ^ 32) (new : places_by fresh ≡ []) (did : HaveWorked reply_in (fresh ∷ []) (worked ∷ []) inputs octets)
    (begins : IsPrefix (seen_by worked) (seen_by served)) (same : places_by served ≡ places_by worked)
    (closed : IsPrefix (seen_by served) journal) (once : AreAllBelow (length journal) (places_by served)) where
  abbrev seen : List Batch
  seen = seen_by worked

  starts : IsPrefix seen journal
  starts = prefix_trans seen (seen_by served) journal begins closed

  once_worked : AreAllBelow (length journal) (places_by worked)
  once_worked = subst (AreAllBelow (length journal)) same once

  -- each place is one that a frame told
  told : IsShift reply_in seen (did.each 0 fresh (omega arith)).placed (inputs_of 0 inputs) (outputs_of 0 did.outputs)
  told =
      let one = did.each 0 fresh (omega arith) in
      let dealt = at_least (length journal) (places_by worked) (λ place within. let here = (once_worked place).0 within in omega (arith, here)) in
      let placed : places_by worked ≡ one.placed = one.places ∙ ap (λ l. l ++ one.placed) new in
      let own = λ (input : Input). input.worker == 0 in
      one.shift (omega (arith, prefix_length seen journal starts, dealt, ap length placed, one.few, length-filter own inputs, count_by-le-length own inputs, few))

  all_seen : seen ≡ journal
  all_seen =
      let one = did.each 0 fresh (omega arith) in
      let placed : places_by worked ≡ flat_map places_of (outputs_of 0 did.outputs) = one.places ∙ ap (λ l. l ++ one.placed) new ∙ told.places in
      prefix_whole seen journal starts
      (no_more (length journal) (length seen) (flat_map places_of (outputs_of 0 did.outputs)) (subst (AreAllBelow (length journal)) placed once_worked)
      (all_below reply_in seen (inputs_of 0 inputs) (outputs_of 0 did.outputs) told.each))

  -- and nothing was seen later
  all_served : seen_by served ≡ journal
  all_served = prefix_whole (seen_by served) journal closed (omega (arith, ap length all_seen, prefix_length seen (seen_by served) begins))

  outputs_fit : Fits reply_in inputs 1 journal did.outputs
  outputs_fit =
      all_fit reply_in 1 journal inputs did.outputs few
      (shifts_of reply_in (fresh ∷ []) (worked ∷ []) journal inputs octets below refl
      (All-cons (λ seat. places_by seat ≡ []) fresh [] new (All-nil (λ seat. places_by seat ≡ [])))
      (All-cons (λ seat. IsPrefix (seen_by seat) journal) worked [] starts (All-nil (λ seat. IsPrefix (seen_by seat) journal)))
      (subst (AreAllBelow (length journal)) (sym (append-nil (places_by worked))) once_worked) did)

-- ---- where each list of seats has one

-- the outputs place all that the cache was closed with, and what was seen after the frames and later is no less
pub record HasAll (inputs : List Input) (journal seen seen' : List Batch) : Type 0 where
  pub by : ArePlacedBy inputs journal
  pub first : seen ≡ journal
  pub last : seen' ≡ journal

module _ {g : Ghosts Held Batch (Unit {0})} where
  pub loaded : (before after : List (Seat Held Batch (Unit {0}) g)) (worked served : Seat Held Batch (Unit {0}) g) (journal : List Batch) (inputs : List Input) (octets : List ℕ)
      → length before ≡ 1 → length after ≡ length before → worked ≡ get_or after 0 worked
      → All (λ input. input.worker < 1) inputs → length inputs < 2 ^ 32 → All (λ seat. places_by seat ≡ []) before
      → HaveWorked reply_in before after inputs octets → IsPrefix (seen_by worked) (seen_by served) → places_by served ≡ places_by worked
      → All (λ seat. IsPrefix (seen_by seat) journal) (set after 0 served) → AreAllBelow (length journal) (flat_map places_by (set after 0 served))
      → HasAll inputs journal (seen_by worked) (seen_by served)
  loaded [] after worked served journal inputs octets one all is below few new did begins same closed once = absurd (omega (arith, one))
  loaded (b ∷ c ∷ before) after worked served journal inputs octets one all is below few new did begins same closed once = absurd (omega (arith, one))
  loaded (b ∷ []) [] worked served journal inputs octets one all is below few new did begins same closed once = absurd (omega (arith, all))
  loaded (b ∷ []) (w ∷ v ∷ after) worked served journal inputs octets one all is below few new did begins same closed once = absurd (omega (arith, all))
  loaded (b ∷ []) (w ∷ []) worked served journal inputs octets one all is below few new did begins same closed once =
      let did' = subst (λ (s : Seat Held Batch (Unit {0}) g). HaveWorked reply_in (b ∷ []) (s ∷ []) inputs octets) (sym is) did in
      let new' = new 0 b (omega arith) in
      let closed' = closed 0 served (omega arith) in
      let once' = subst (AreAllBelow (length journal)) (append-nil (places_by served)) once in
      record {
        by = record { outputs = did'.outputs; fits = outputs_fit b worked served journal inputs octets below few new' did' begins same closed' once' };
        first = all_seen b worked served journal inputs octets below few new' did' begins same closed' once';
        last = all_served b worked served journal inputs octets below few new' did' begins same closed' once';
      }
