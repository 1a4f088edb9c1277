-- The laws of the table, event by event.
use Rattle.std.proofs.Common.{◌≡◌, ◌∙◌, ℕ, ◌+◌, ◌<◌, ◌≤◌, ⊎_elim, Bool, true, false, cond, List, [], ◌∷◌, length, get_or, set, drop, replicate, zero, suc, refl, ap, sym, subst, arith, Option, Some, None, All}
use Rattle.std.specs.Prelude.{◌==◌, is_none, nat_lt}
use Rattle.std.specs.List.{position, sum_by}
use Rattle.std.proofs.lemmas.Bool.{and_parts, both_ways, cases_lt, leb-false}
use Rattle.std.proofs.lemmas.List.{get_or_past, length-set, set_past}
use Rattle.std.proofs.lemmas.List.Elements.{All-cons, All-nil}
use Rattle.std.proofs.lemmas.List.Sums.{sum_by-append, sum_by-cons, sum_by-set, sum_by_push}
use Rattle.arrivals.specs.declared.carrier.Carrier.TheVariants.{Datagram, Stream}
use Rattle.waiting_table.specs.declared.client.Client.{Client}
use Rattle.waiting_table.specs.Waiting.{Slot, again, asked_by_stream, clients_in, clients_of, empty_table, first_asked, is_due, is_late, same_asked, same_carrier, slot_at, takes, with_client}
use Rattle.waiting_table.specs.Steps.{Step, Asked, Answered, AskedByStream, Ticked, after_one, freed, given_up, late_clients, late_in, oldest, place_of, placed, replies_of, ticked, ticked_slot}
use Rattle.waiting_table.specs.Laws.{AreAskedOnce, IsInTime, after, asked_by, of_number, queries_of, replies_in, waiting_for}
use Rattle.waiting_table.proofs.SlotLemmas.{found, free_at, none_found, oldest_within, set_slot, takes_both, takes_less, takes_streamed, takes_ticked, ticked_at}

-- ---- asked once

once_set : (table : List Slot) (k : ℕ) (slot : Slot) → AreAskedOnce table → ((question : _) (i : ℕ) → takes question slot ≡ true → takes question (slot_at table i) ≡ true → i ≡ k) → AreAskedOnce (set table k slot)
once_set table k slot once only question i j ti tj =
    let at = λ (s : Slot). takes question s ≡ true in
    ⊎_elim
    (λ hi. ⊎_elim (λ hj. hi.0 ∙ sym hj.0) (λ hj. hi.0 ∙ sym (only question j (subst at hi.1 ti) (subst at hj tj))) (set_slot table k slot j))
    (λ hi. ⊎_elim (λ hj. only question i (subst at hj.1 tj) (subst at hi ti) ∙ sym hj.0) (λ hj. once question i j (subst at hi ti) (subst at hj tj)) (set_slot table k slot j))
    (set_slot table k slot i)

once_joined : (client : Client) (table : List Slot) (k : ℕ) → AreAskedOnce table → AreAskedOnce (set table k (with_client client (slot_at table k)))
once_joined client table k once =
    once_set table k (with_client client (slot_at table k)) once (λ question i more takes_it. once question i k takes_it (takes_less question client (slot_at table k) more))

once_asked : (now id : ℕ) (client : Client) (table : List Slot) (k : ℕ) → AreAskedOnce table → position (takes client.question) table ≡ None → AreAskedOnce (set table k (Some (first_asked now id client)))
once_asked now id client table k once none =
    once_set table k (Some (first_asked now id client)) once
    (λ question i asked takes_it.
    absurd (both_ways (takes client.question (slot_at table i)) (none_found (takes client.question) table refl none i)
    (takes_both client.question question (slot_at table i) (and_parts (same_asked client.question question) (nat_lt 1 16) asked).0 ∙ takes_it)))

once_placed : (now id : ℕ) (client : Client) (table : List Slot) (joins free : Option ℕ) → AreAskedOnce table → position (takes client.question) table ≡ joins → AreAskedOnce (placed now id client table (place_of joins free (oldest table)))
once_placed now id client table (Some k) free once is = once_joined client table k once
once_placed now id client table None (Some k) once is = once_asked now id client table k once is
once_placed now id client table None None once is = once_asked now id client table (oldest table) once is

pub once_after : (step : Step) (table : List Slot) → AreAskedOnce table → AreAskedOnce (after_one step table)
once_after (Asked now id client) table once = once_placed now id client table (position (takes client.question) table) (position (λ slot. is_none slot) table) once refl
once_after (Answered slot) table once = once_set table slot None once (λ question i takes_it other. absurd (cc takes_it))
once_after (AskedByStream slot id) table once =
    once_set table slot (asked_by_stream id (slot_at table slot)) once (λ question i asked takes_it. once question i slot takes_it (takes_streamed question id (slot_at table slot) asked))
once_after (Ticked now ids) table once = λ question i j ti tj.
    let at = ticked_at now ids table i in
    let other = ticked_at now ids table j in
    once question i j (takes_ticked question now at.0 (slot_at table i) (subst (λ (s : Slot). takes question s ≡ true) at.1 ti))
    (takes_ticked question now other.0 (slot_at table j) (subst (λ (s : Slot). takes question s ≡ true) other.1 tj))

all_once : (steps : List Step) (table : List Slot) → AreAskedOnce table → AreAskedOnce (after steps table)
all_once [] table once = once
all_once (step ∷ more) table once = all_once more (after_one step table) (once_after step table once)

pub none_asked : AreAskedOnce empty_table
unfolding empty_table
none_asked question i j ti tj = absurd (cc (subst (λ (s : Slot). takes question s ≡ true) (free_at 256 i) ti))

pub each_asked_once : (steps : List Step) → AreAskedOnce (after steps empty_table)
each_asked_once steps = all_once steps empty_table none_asked

-- ---- replied to once

-- What clients weigh is neither lost nor made. Where those of one number weigh 1 and all others nothing, it counts that client's
module _ (weight : Client → ℕ) where
  -- those that wait
  abbrev weight_in : List Slot → ℕ
  weight_in table = sum_by (λ (s : Slot). sum_by weight (clients_in s)) table

  set_weighs : (table : List Slot) (k : ℕ) (slot : Slot) → k < length table → weight_in (set table k slot) + sum_by weight (clients_in (slot_at table k)) ≡ weight_in table + sum_by weight (clients_in slot)
  set_weighs table k slot within = sum_by-set (λ (s : Slot). sum_by weight (clients_in s)) table k slot None within

  one_more : (question : _) (client : Client) (slot : Slot) → takes question slot ≡ true → sum_by weight (clients_in (with_client client slot)) ≡ sum_by weight (clients_in slot) + weight client
  one_more question client None h = absurd (cc h)
  one_more question client (Some w) h = sum_by_push weight (clients_of w) client

  none_there : (slot : Slot) → is_none slot ≡ true → sum_by weight (clients_in slot) ≡ 0
  none_there None h = refl
  none_there (Some w) h = absurd (cc h)

  placed_weighs : (now id : ℕ) (client : Client) (table : List Slot) (joins free : Option ℕ) → 0 < length table → position (takes client.question) table ≡ joins → position (λ slot. is_none slot) table ≡ free
      → sum_by weight (given_up table (place_of joins free (oldest table))) + weight_in (placed now id client table (place_of joins free (oldest table))) ≡ weight_in table + weight client
  placed_weighs now id client table (Some k) free some joins is =
      let at = found (takes client.question) table k joins in
      let waits = set_weighs table k (with_client client (slot_at table k)) at.0 in
      let more = one_more client.question client (slot_at table k) at.1 in
      omega arith
  placed_weighs now id client table None (Some k) some joins is =
      let at = found (λ slot. is_none slot) table k is in
      let waits = set_weighs table k (Some (first_asked now id client)) at.0 in
      let none = none_there (slot_at table k) at.1 in
      omega arith
  placed_weighs now id client table None None some joins is =
      let waits = set_weighs table (oldest table) (Some (first_asked now id client)) (oldest_within table some) in omega arith

  freed_weighs : (slot : ℕ) (table : List Slot) → sum_by weight (clients_in (slot_at table slot)) + weight_in (freed slot table) ≡ weight_in table
  freed_weighs slot table = ⊎_elim
      (λ (h : slot < length table). let waits = set_weighs table slot None h in omega arith)
      (λ (h : length table ≤ slot). rw (set_past table slot None h, get_or_past table slot None h) (omega arith))
      (cases_lt slot (length table))

  streamed_weighs : (id : ℕ) (slot : Slot) → sum_by weight (clients_in (asked_by_stream id slot)) ≡ sum_by weight (clients_in slot)
  streamed_weighs id None = refl
  streamed_weighs id (Some w) = by (same_carrier w.by Datagram)
    where
      by : (may : Bool) → sum_by weight (clients_in (cond may (Some (record w { by = Stream; id = id })) (Some w))) ≡ sum_by weight (clients_of w)
      by true = refl
      by false = refl

  kept_weighs : (table : List Slot) (slot id : ℕ) → weight_in (set table slot (asked_by_stream id (slot_at table slot))) ≡ weight_in table
  kept_weighs table slot id = ⊎_elim
      (λ (h : slot < length table).
      let waits = set_weighs table slot (asked_by_stream id (slot_at table slot)) h in
      let same = streamed_weighs id (slot_at table slot) in
      omega arith)
      (λ (h : length table ≤ slot). rw (set_past table slot (asked_by_stream id (slot_at table slot)) h) refl)
      (cases_lt slot (length table))

  slot_weighs : (now id : ℕ) (slot : Slot) → sum_by weight (late_in now slot) + sum_by weight (clients_in (ticked_slot now id slot)) ≡ sum_by weight (clients_in slot)
  slot_weighs now id None = refl
  slot_weighs now id (Some w) = by (is_late now w) (is_due now w)
    where
      by : (late due : Bool) → sum_by weight (cond late (clients_in (Some w)) []) + sum_by weight (clients_in (cond late None (cond due (Some (again now id w)) (Some w)))) ≡ sum_by weight (clients_in (Some w))
      by true due = omega arith
      by false true = omega arith
      by false false = omega arith

  ticked_weighs : (now : ℕ) (ids : List ℕ) (table : List Slot) → sum_by weight (late_clients now table) + weight_in (ticked now ids table) ≡ weight_in table
  ticked_weighs now ids [] = refl
  ticked_weighs now ids (s ∷ ss) =
      let here = slot_weighs now (get_or ids 0 0) s in
      let rest = ticked_weighs now (drop 1 ids) ss in
      let all = sum_by-append weight (late_in now s) (late_clients now ss) in
      let before = sum_by-cons (λ (t : Slot). sum_by weight (clients_in t)) s ss in
      let after_it = sum_by-cons (λ (t : Slot). sum_by weight (clients_in t)) (ticked_slot now (get_or ids 0 0) s) (ticked now (drop 1 ids) ss) in
      omega arith

  step_weighs : (step : Step) (table : List Slot) → 0 < length table → sum_by weight (replies_of step table) + weight_in (after_one step table) ≡ weight_in table + sum_by weight (asked_by step)
  step_weighs (Asked now id client) table some =
      let weighs = placed_weighs now id client table (position (takes client.question) table) (position (λ slot. is_none slot) table) some refl refl in omega arith
  step_weighs (Answered slot) table some = let weighs = freed_weighs slot table in omega arith
  step_weighs (AskedByStream slot id) table some = let weighs = kept_weighs table slot id in omega arith
  step_weighs (Ticked now ids) table some = let weighs = ticked_weighs now ids table in omega arith

-- of a client's queries, and those that waited before it, each is replied to in a step, or waits after it
pub step_counts : (number : ℕ) (step : Step) (table : List Slot) → 0 < length table
    → of_number number (replies_of step table) + waiting_for number (after_one step table) ≡ waiting_for number table + of_number number (asked_by step)
step_counts number = step_weighs (λ client. cond (client.number == number) 1 0)

length_ticked : (now : ℕ) (ids : List ℕ) (table : List Slot) → length (ticked now ids table) ≡ length table
length_ticked now ids [] = refl
length_ticked now ids (s ∷ ss) = ap suc (length_ticked now (drop 1 ids) ss)

length_placed : (now id : ℕ) (client : Client) (table : List Slot) (joins free : Option ℕ) → length (placed now id client table (place_of joins free (oldest table))) ≡ length table
length_placed now id client table (Some k) free = length-set table k (with_client client (slot_at table k))
length_placed now id client table None (Some k) = length-set table k (Some (first_asked now id client))
length_placed now id client table None None = length-set table (oldest table) (Some (first_asked now id client))

-- the table keeps its slots
pub length_after : (step : Step) (table : List Slot) → length (after_one step table) ≡ length table
length_after (Asked now id client) table = length_placed now id client table (position (takes client.question) table) (position (λ slot. is_none slot) table)
length_after (Answered slot) table = length-set table slot None
length_after (AskedByStream slot id) table = length-set table slot (asked_by_stream id (slot_at table slot))
length_after (Ticked now ids) table = length_ticked now ids table

all_counts : (number : ℕ) (steps : List Step) (table : List Slot) → 0 < length table → of_number number (replies_in steps table) + waiting_for number (after steps table) ≡ waiting_for number table + queries_of number steps
all_counts number [] table some = omega arith
all_counts number (step ∷ more) table some =
    let here = step_counts number step table some in
    let size = length_after step table in
    let rest = all_counts number more (after_one step table) (omega arith) in
    let all = sum_by-append (λ client. cond (client.number == number) 1 0) (replies_of step table) (replies_in more (after_one step table)) in
    let queries = sum_by-cons (λ s. of_number number (asked_by s)) step more in
    omega arith

none_waits : (number n : ℕ) → waiting_for number (replicate n None) ≡ 0
none_waits number zero = refl
none_waits number (suc n) = let none = none_waits number n in none

pub none_waits_yet : (number : ℕ) → waiting_for number empty_table ≡ 0
unfolding empty_table
none_waits_yet number = none_waits number 256

pub length_empty : length empty_table ≡ 256
unfolding empty_table
length_empty = refl

pub each_once : (number : ℕ) (steps : List Step) → of_number number (replies_in steps empty_table) + waiting_for number (after steps empty_table) ≡ queries_of number steps
each_once number steps = let counts = all_counts number steps empty_table (omega (arith, length_empty)) in let none = none_waits_yet number in omega arith

-- ---- never for long

pub in_time : (now id : ℕ) (slot : Slot) → IsInTime now (ticked_slot now id slot)
in_time now id None = tt
in_time now id (Some w) = by (is_late now w) (is_due now w) refl
  where
    by : (late due : Bool) → is_late now w ≡ late → IsInTime now (cond late None (cond due (Some (again now id w)) (Some w)))
    by true due is = tt
    by false true is = leb-false (w.since + 4500) now is
    by false false is = leb-false (w.since + 4500) now is

pub all_in_time : (now : ℕ) (ids : List ℕ) (table : List Slot) → All (IsInTime now) (ticked now ids table)
all_in_time now ids [] = All-nil (IsInTime now)
all_in_time now ids (s ∷ ss) = All-cons (IsInTime now) (ticked_slot now (get_or ids 0 0) s) (ticked now (drop 1 ids) ss) (in_time now (get_or ids 0 0) s) (all_in_time now (drop 1 ids) ss)
