-- The shifts of all workers are those of links that serve.
use Rattle.std.proofs.Common.{◌≡◌, ℕ, zero, suc, ◌+◌, ◌-◌, ◌*◌, ◌<◌, ◌≤◌, ◌^◌, ◌⊎◌, inl, inr, Bool, true, false, not, ◌==◌, cond, List, [], ◌∷◌, ◌++◌, length, map, is_none, Option, None, Some, refl, sym, ◌∙◌, ap, subst, arith, length-append, zero-add}
use Rattle.std.specs.List.{All, AllZip, flat_map, sum_by}
use Rattle.std.proofs.lemmas.Grind.{flat_map-append}
use Rattle.std.proofs.Math.Nat.{suc-mul}
use Rattle.std.proofs.lemmas.Bool.Decides.{nat_tests}
use Rattle.std.specs.Prelude.{Result, Ok, Err}
use Rattle.std.proofs.lemmas.List.{append-nil, length-map}
use Rattle.std.proofs.lemmas.List.Elements.{All-nil, All-cons, All-head, All-tail}
use Rattle.std.proofs.lemmas.List.Sums.{sum_by-cons}
use Rattle.std.proofs.lemmas.Option.{same_Some}
use mathlib.Core.List.{IsPrefix}
use Rattle.denial_records.specs.declared.batch.Batch.{Batch}
use Rattle.cache_meaning.specs.Held.{Held}
use Rattle.cache_versions.specs.declared.state.State.{Ghosts}
use Rattle.cache_versions.specs.declared.seat.Seat.{Seat}
use Rattle.cache_versions.specs.Seats.{places_by, seen_by}
use Rattle.cache_versions.specs.Hands.{AreAllBelow, times}
use Rattle.serving.specs.Pending.{Slot, empty_table}
use Rattle.outside_core.specs.Event.{received_by, received_in}
use Rattle.outside_core.specs.Returned.{Returned}
use Rattle.outside_core.specs.Fault.{Rose}
use Rattle.outside_core.specs.declared.datagram.Datagram.{Datagram}
use Rattle.outside_core.specs.declared.event.Event.{Event}
use Rattle.outside_core.specs.declared.event.Event.TheVariants.{Awaited}
use Rattle.serving.specs.declared.serve_fault.ServeFault.{ServeFault}
use Rattle.serving.specs.declared.serve_fault.ServeFault.TheVariants.{Link, OutOfMemory}
use Rattle.serving.specs.Worker.{Ends, HasFaults, HasServed}
use Rattle.serving.specs.Serves.{LAST}
use Rattle.serving.specs.Turn.{Turn, AreTurns, AreTurnsOf, IsKeptAt, places_of}
use Rattle.serving.specs.Rounds.{Round, events_of, places_in, turns_in}
use Rattle.serving.specs.Links.{HasEnded, HasSent, IsServed, IsShift, LinksServe, Shift}
use Rattle.serving.proofs.EventLemmas.{datagram_in, received_awaited, received_rounds}
use Rattle.serving.proofs.TurnLemmas.{turns_more}

-- ---- numbers that are each once in a list

without : ℕ → List ℕ → List ℕ
without n [] = []
without n (x ∷ xs) = cond (x == n) (without n xs) (x ∷ without n xs)

apart_by : (m x : ℕ) (b : Bool) (xs ys : List ℕ) → ((b ≡ true) → (x == m) ≡ false) → times m ys ≡ times m xs → times m (cond b ys (x ∷ ys)) ≡ times m (x ∷ xs)
apart_by m x true xs ys apart same =
    same ∙ sym (sum_by-cons (λ y. cond (y == m) 1 0) x xs ∙ ap (λ (t : Bool). cond {A = ℕ} t 1 0 + times m xs) (apart refl) ∙ zero-add (times m xs))
apart_by m x false xs ys apart same =
    sum_by-cons (λ y. cond (y == m) 1 0) x ys ∙ ap (λ n. cond (x == m) 1 0 + n) same ∙ sym (sum_by-cons (λ y. cond (y == m) 1 0) x xs)

other_test : (x n m : ℕ) → (n ≡ m → ⊥) → (x == n) ≡ true → (x == m) ≡ false
other_test x n m apart same = grind (arith, nat_tests)

times_without : (n m : ℕ) (xs : List ℕ) → (n ≡ m → ⊥) → times m (without n xs) ≡ times m xs
unfolding without
times_without n m [] apart = refl
times_without n m (x ∷ xs) apart = apart_by m x (x == n) xs (without n xs) (other_test x n m apart) (times_without n m xs apart)

fewer_by : (x n : ℕ) (b : Bool) (xs ys : List ℕ) → (x == n) ≡ b → length ys + times n xs ≤ length xs → length (cond b ys (x ∷ ys)) + times n (x ∷ xs) ≤ 1 + length xs
fewer_by x n true xs ys is le =
    let here : times n (x ∷ xs) ≡ 1 + times n xs = sum_by-cons (λ y. cond (y == n) 1 0) x xs ∙ ap (λ (t : Bool). cond {A = ℕ} t 1 0 + times n xs) is in
    omega (arith, here, le)
fewer_by x n false xs ys is le =
    let here : times n (x ∷ xs) ≡ 0 + times n xs = sum_by-cons (λ y. cond (y == n) 1 0) x xs ∙ ap (λ (t : Bool). cond {A = ℕ} t 1 0 + times n xs) is in
    omega (arith, here, le)

length_without : (n : ℕ) (xs : List ℕ) → length (without n xs) + times n xs ≤ length xs
unfolding without
length_without n [] = omega arith
length_without n (x ∷ xs) = let all = fewer_by x n (x == n) xs (without n xs) refl (length_without n xs) in omega (arith, all)

-- where each number below n is in the list, the list has n elements at least
at_least : (n : ℕ) (xs : List ℕ) → ((m : ℕ) → m < n → 1 ≤ times m xs) → n ≤ length xs
at_least zero xs each = omega arith
at_least (suc n) xs each =
    let fewer = at_least n (without n xs) (λ m lt. omega (arith, times_without n m xs (λ e. omega (arith, e)), each m (omega arith))) in
    omega (arith, length_without n xs, each n (omega arith), fewer)

-- ---- the places of turns

places_few : (placed : Bool) (version : ℕ) → length (cond placed ((version - 1) ∷ []) []) ≤ 1
places_few true version = omega arith
places_few false version = omega arith

places_one : (placed : Bool) (version : ℕ) → 1 ≤ length (cond placed ((version - 1) ∷ []) []) → placed ≡ true
places_one true version some = refl
places_one false version some = absurd (omega (arith, some))

turns_few : (turns : List Turn) → length (flat_map places_of turns) ≤ length turns
turns_few [] = omega arith
turns_few (turn ∷ later) =
    omega (arith, length-append (places_of turn) (flat_map places_of later), places_few turn.placed turn.version, turns_few later)

abbrev IsPlacing : Turn → Type 0
IsPlacing turn = turn.placed ≡ true

turns_all : (turns : List Turn) → length turns ≤ length (flat_map places_of turns) → All IsPlacing turns
turns_all [] many = All-nil IsPlacing
turns_all (turn ∷ later) many =
    let split = length-append (places_of turn) (flat_map places_of later) in
    let few = turns_few later in
    let one = places_few turn.placed turn.version in
    All-cons IsPlacing turn later (places_one turn.placed turn.version (omega (arith, split, few, many))) (turns_all later (omega (arith, split, one, many)))

-- ---- a batch that was not placed

module _ (wanting : Bool) (datagrams : ℕ) (moment : Option ℕ) (journal : List Batch) where
  abbrev placed_of : Shift → List ℕ
  placed_of shift = shift.placed

  abbrev count_of : Shift → ℕ
  count_of shift = length (turns_in shift.rounds)

  one_few : (link : Returned) (shift : Shift) → IsShift wanting datagrams moment journal link shift → length shift.placed ≤ length (turns_in shift.rounds)
  one_few link shift is = omega (arith, ap length is.are.places, turns_few (turns_in shift.rounds))

  one_all : (link : Returned) (shift : Shift) → IsShift wanting datagrams moment journal link shift → length (turns_in shift.rounds) ≤ length shift.placed → All IsPlacing (turns_in shift.rounds)
  one_all link shift is many = turns_all (turns_in shift.rounds) (omega (arith, many, ap length is.are.places))

  shifts_few : (links : List Returned) (shifts : List Shift) → AllZip (IsShift wanting datagrams moment journal) links shifts → length (flat_map placed_of shifts) ≤ sum_by count_of shifts
  shifts_few [] [] all = omega arith
  shifts_few [] (shift ∷ shifts) all = absurd all
  shifts_few (link ∷ links) [] all = absurd all
  shifts_few (link ∷ links) (shift ∷ shifts) all =
      omega (arith, length-append shift.placed (flat_map placed_of shifts), sum_by-cons count_of shift shifts, one_few link shift all.0, shifts_few links shifts all.1)

  -- a shift with what the law says of it, where a journal as long as can be has room for no turn that places nothing
  kept_all : (batch : Option Batch) (version : ℕ) (placed : Bool) → version ≤ length journal → (LAST ≤ length journal → placed ≡ true) → IsKeptAt journal version batch placed → placed ≡ not (is_none batch)
  kept_all None version placed within free kept = kept
  kept_all (Some batch) version true within free kept = refl
  kept_all (Some batch) version false within free kept = free (omega (arith, kept, within))

  turns_kept : (table : List Slot) (turns : List Turn) → (LAST ≤ length journal → All IsPlacing turns) → AreTurns journal table turns → All (λ turn. turn.placed ≡ not (is_none turn.done.batch)) turns
  turns_kept table [] free are = All-nil (λ turn. turn.placed ≡ not (is_none turn.done.batch))
  turns_kept table (turn ∷ later) free are =
      All-cons (λ t. t.placed ≡ not (is_none t.done.batch)) turn later
      (kept_all turn.done.batch turn.version turn.placed are.0.within (λ full. All-head IsPlacing turn later (free full)) are.0.kept)
      (turns_kept turn.done.table later (λ full. All-tail IsPlacing turn later (free full)) are.1)

  served : (link : Returned) (shift : Shift) → (LAST ≤ length journal → All IsPlacing (turns_in shift.rounds)) → IsShift wanting datagrams moment journal link shift → IsServed wanting datagrams moment journal link shift.rounds
  served link shift free is =
      let each = turns_more shift.seen journal empty_table (turns_in shift.rounds) is.begins is.are.each in
      record {
        ended = is.ended;
        moments = is.moments;
        each = each;
        order = is.are.order;
        all = turns_kept empty_table (turns_in shift.rounds) free each;
      }

  rounds_of : List Shift → List (List Round)
  rounds_of shifts = map (λ shift. shift.rounds) shifts

  all_served : (links : List Returned) (shifts : List Shift) → (LAST ≤ length journal → sum_by count_of shifts ≤ length (flat_map placed_of shifts)) → AllZip (IsShift wanting datagrams moment journal) links shifts → AllZip (IsServed wanting datagrams moment journal) links (rounds_of shifts)
  unfolding rounds_of
  all_served [] [] free all = tt
  all_served [] (shift ∷ shifts) free all = absurd all
  all_served (link ∷ links) [] free all = absurd all
  all_served (link ∷ links) (shift ∷ shifts) free all =
      let split = length-append shift.placed (flat_map placed_of shifts) in
      let total = sum_by-cons count_of shift shifts in (
        served link shift (λ full. let many = free full in one_all link shift all.0 (omega (arith, many, split, total, shifts_few links shifts all.1))) all.0,
        all_served links shifts (λ full. let many = free full in omega (arith, many, split, total, one_few link shift all.0)) all.1,
      )

  places_same : (links : List Returned) (shifts : List Shift) → AllZip (IsShift wanting datagrams moment journal) links shifts → flat_map placed_of shifts ≡ flat_map places_in (rounds_of shifts)
  unfolding rounds_of
  places_same [] [] all = refl
  places_same [] (shift ∷ shifts) all = absurd all
  places_same (link ∷ links) [] all = absurd all
  places_same (link ∷ links) (shift ∷ shifts) all = (λ i. all.0.are.places i ++ places_same links shifts all.1 i)

  links_few : (links : List Returned) (shifts : List Shift) → AllZip (IsShift wanting datagrams moment journal) links shifts → sum_by count_of shifts ≤ length links * datagrams
  links_few [] [] all = omega arith
  links_few [] (shift ∷ shifts) all = absurd all
  links_few (link ∷ links) [] all = absurd all
  links_few (link ∷ links) (shift ∷ shifts) all =
      omega (arith, sum_by-cons count_of shift shifts, suc-mul (length links) datagrams, all.0.few, links_few links shifts all.1)

  pub links_serve : (links : List Returned) (shifts : List Shift) → length links * datagrams < 2 ^ 32 → AllZip (IsShift wanting datagrams moment journal) links shifts → AreAllBelow (length journal) (flat_map placed_of shifts) → LinksServe wanting datagrams moment journal links
  links_serve links shifts few all once =
      let many : length journal ≤ length (flat_map placed_of shifts) = at_least (length journal) (flat_map placed_of shifts) (λ place within. let one = (once place).0 within in omega (arith, one)) in
      record {
        rounds = rounds_of shifts;
        each = all_served links shifts (λ full. omega (arith, full, many, few, links_few links shifts all)) all;
        once = subst (AreAllBelow (length journal)) (places_same links shifts all) once;
      }

-- ---- a worker's shift

pub rose_above : (faults : ℕ) → Rose 0 faults → 1 ≤ faults
rose_above faults (inl more) = more
rose_above faults (inr full) = absurd (omega (arith, full.0))

-- what went over the link are the datagrams of the turns, and the one that has none
pub received_all : (datagrams : ℕ) (rounds : List Round) (lost : List Datagram) (went : List Event) (result : Result (Unit {0}) ServeFault)
    → Ends datagrams rounds lost went result → received_in went ≡ map datagram_in (turns_in rounds) ++ lost
received_all datagrams rounds lost went (Ok done) ends =
    ap received_in ends.2 ∙ received_rounds rounds ∙ sym (ap (λ l. map datagram_in (turns_in rounds) ++ l) ends.1 ∙ append-nil (map datagram_in (turns_in rounds)))
received_all datagrams rounds lost went (Err Link) ends =
    ends.3 ∙ sym (ap (λ l. map datagram_in (turns_in rounds) ++ l) ends.1 ∙ append-nil (map datagram_in (turns_in rounds)))
received_all datagrams rounds lost went (Err OutOfMemory) ends =
    ap received_in ends.2 ∙ flat_map-append received_by (events_of rounds) (map Awaited lost) ∙ (λ i. received_rounds rounds i ++ received_awaited lost i)

-- how many these are
pub many_received : (datagrams : ℕ) (rounds : List Round) (lost : List Datagram) (went : List Event) (result : Result (Unit {0}) ServeFault)
    → Ends datagrams rounds lost went result → length (received_in went) ≡ length (turns_in rounds) + length lost
many_received datagrams rounds lost went result ends =
    let all = ap length (received_all datagrams rounds lost went result ends) in
    omega (arith, all, length-append (map datagram_in (turns_in rounds)) lost, length-map (turns_in rounds) datagram_in)

-- what went over the link is what the rounds say, as its count of faults tells
sent_as : (datagrams : ℕ) (link : Returned) (rounds : List Round) (lost : List Datagram) (result : Result (Unit {0}) ServeFault)
    → (result ≡ Err OutOfMemory → ⊥) → HasFaults 0 link.faults result → Ends datagrams rounds lost link.events result
    → HasSent datagrams link rounds
sent_as datagrams link rounds lost (Ok done) other faults ends =
    let same = ap received_in ends.2 ∙ received_rounds rounds in
    let count = ap length same ∙ length-map (turns_in rounds) datagram_in in
    record {
      received = same;
      few = omega (arith, count, ends.0);
      whole = λ none. (count ∙ ends.0, ends.2);
      part = λ some. absurd (omega (arith, faults, some));
    }
sent_as datagrams link rounds lost (Err Link) other faults ends =
    let count = ap length ends.3 ∙ length-map (turns_in rounds) datagram_in in
    record {
      received = ends.3;
      few = omega (arith, count, ends.0);
      whole = λ none. absurd (let some = rose_above link.faults faults in omega (arith, none, some));
      part = λ some. (ends.2, fewer_or_shorter count ends.4);
    }
  where
    fewer_or_shorter : length (received_in link.events) ≡ length (turns_in rounds) → (length (turns_in rounds) < datagrams) ⊎ (length link.events < length (events_of rounds))
        → (length (received_in link.events) < datagrams) ⊎ (length link.events < length (events_of rounds))
    fewer_or_shorter count (inl fewer) = inl (omega (arith, count, fewer))
    fewer_or_shorter count (inr shorter) = inr shorter
sent_as datagrams link rounds lost (Err OutOfMemory) other faults ends = absurd (other refl)

ok_wants_none : (result : Result (Unit {0}) ServeFault) (done : Unit {0}) → result ≡ Ok done → result ≡ Err OutOfMemory → ⊥
ok_wants_none result done is wanted = cc

link_wants_none : (result : Result (Unit {0}) ServeFault) → result ≡ Err Link → result ≡ Err OutOfMemory → ⊥
link_wants_none result is wanted = cc

ended_as : (wanting : Bool) (datagrams : ℕ) (link : Returned) (rounds : List Round) (lost : List Datagram) (result : Result (Unit {0}) ServeFault)
    → (wanting ≡ false → result ≡ Err OutOfMemory → ⊥) → HasFaults 0 link.faults result → Ends datagrams rounds lost link.events result
    → HasEnded wanting datagrams link rounds
ended_as false datagrams link rounds lost result other faults ends = sent_as datagrams link rounds lost result (other refl) faults ends
ended_as true datagrams link rounds lost (Ok done) other faults ends = inl (sent_as datagrams link rounds lost (Ok done) (ok_wants_none (Ok done) done refl) faults ends)
ended_as true datagrams link rounds lost (Err Link) other faults ends = inl (sent_as datagrams link rounds lost (Err Link) (link_wants_none (Err Link) refl) faults ends)
ended_as true datagrams link rounds lost (Err OutOfMemory) other faults ends = inr (record {
  lost = lost;
  one = ends.1;
  events = ends.2;
  few = omega (arith, many_received datagrams rounds lost link.events (Err OutOfMemory) ends, ends.0);
  unfailed = faults;
})

turns_at_most : (datagrams : ℕ) (rounds : List Round) (lost : List Datagram) (went : List Event) (result : Result (Unit {0}) ServeFault) → Ends datagrams rounds lost went result → length (turns_in rounds) ≤ datagrams
turns_at_most datagrams rounds lost went (Ok done) ends = omega (arith, ends.0)
turns_at_most datagrams rounds lost went (Err Link) ends = ends.0
turns_at_most datagrams rounds lost went (Err OutOfMemory) ends = omega (arith, ends.0)

module _ {g : Ghosts Held Batch (Unit {0})} where
  -- What a worker did over a fresh seat and a new link is a shift of the cache that is closed later
  pub shift_of : (wanting : Bool) (datagrams : ℕ) (moment : Option ℕ) (journal : List Batch) (before after : Seat Held Batch (Unit {0}) g) (link : Returned) (result : Result (Unit {0}) ServeFault)
      → (wanting ≡ false → result ≡ Err OutOfMemory → ⊥) → seen_by before ≡ [] → places_by before ≡ [] → IsPrefix (seen_by after) journal → HasFaults 0 link.faults result
      → (served : HasServed datagrams moment before after (Some []) (Some link.events) result)
      → IsShift wanting datagrams moment journal link (record { seen = seen_by after; placed = places_by after; rounds = served.rounds })
  shift_of wanting datagrams moment journal before after link result other seen placed begins faults served =
      let went : link.events ≡ served.went = same_Some _ _ served.events_are in
      let ends = subst (λ l. Ends datagrams served.rounds served.lost l result) (sym went) served.ends in
      let places : places_by after ≡ served.placed = served.places ∙ ap (λ l. l ++ served.placed) placed in
      record {
        begins = begins;
        are = subst (λ p. AreTurnsOf 0 (seen_by after) p (turns_in served.rounds)) (sym places) (subst (λ n. AreTurnsOf n (seen_by after) served.placed (turns_in served.rounds)) (ap length seen) served.are);
        few = turns_at_most datagrams served.rounds served.lost link.events result ends;
        moments = served.moments;
        ended = ended_as wanting datagrams link served.rounds served.lost result other faults ends;
      }
