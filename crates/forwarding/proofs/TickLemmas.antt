-- A tick, slot by slot.
use Rattle.std.proofs.Common.{◌≡◌, ◌∙◌, ℕ, suc, ◌+◌, ◌<◌, ◌≤◌, Bool, true, false, cond, List, [], ◌∷◌, ◌++◌, length, map, take, drop, get_or, set, All, Option, None, Some, refl, sym, ap, arith, length-append}
use Rattle.std.specs.Prelude.{◌%◌, ◌^◌, ◌&&◌, IfSome, filter, not, replicate}
use Rattle.std.proofs.Math.Nat.{add-mod-mod, mod-add-mod}
use Rattle.std.proofs.lemmas.List.Elements.{All-replicate, All-set, filter-append}
use Rattle.std.proofs.lemmas.Bool.{and_parts, false≢true, not-true}
use Rattle.std.proofs.lemmas.List.{append-nil, append_assoc, drop_all, drop_more, drop-drop, drop-set-lt, get_or-drop, take_all, take_more, take_more_set}
use Rattle.arrivals.specs.declared.carrier.Carrier.TheVariants.{Datagram}
use Rattle.dnswire.specs.declared.question.Question.{Question}
use Rattle.reply_core.specs.Ask.{ask_octets}
use Rattle.counters.specs.Counts.{count_of, counted, index_of, times, with_tally}
use Rattle.counters.specs.declared.counter.Counter.TheVariants as counters
use Rattle.counters.proofs.CountLemmas.{none_more}
use Rattle.waiting_table.specs.declared.client.Client.{Client}
use Rattle.waiting_table.specs.Waiting.{Slot, Waiting, clients_in, is_due, slot_at}
use Rattle.waiting_table.specs.Steps.{again_in, is_due_in, is_late_in, is_quiet, late_clients, late_in, ticked, ticked_slot}
use Rattle.forwarding.specs.declared.sent.Sent.{Sent}
use Rattle.forwarding.specs.Lawful.{Told, more_sent}
use Rattle.forwarding.proofs.LawfulLemmas.{whole_nexts}
use Rattle.forwarding.specs.Done.{due_in, failed, tick_done, tick_sends, ticks_from, to_upstream}

-- ---- the IDs

pub drawn_none : (n : ℕ) → All (λ id. id < 65536) (replicate n 0)
drawn_none n = All-replicate (λ (id : ℕ). id < 65536) n 0 (omega arith)

pub drawn_more : (ids : List ℕ) (slot id : ℕ) → id < 65536 → All (λ id. id < 65536) ids → All (λ id. id < 65536) (set ids slot id)
drawn_more ids slot id fits drawn = All-set (λ (id : ℕ). id < 65536) ids slot id fits drawn

-- ---- one slot

-- what becomes of a slot, by what is due
abbrev slot_by : ℕ → ℕ → Waiting → Bool → Bool → Slot
slot_by now id w late due = cond late None (cond due (again_in now id (Some w)) (Some w))

-- and what is sent
abbrev sends_by : ℕ → ℕ → Waiting → Bool → Bool → List Sent
sends_by slot id w late due = cond late (map failed (clients_in (Some w))) (cond due (to_upstream slot Datagram (ask_octets w.asker.question id) ∷ []) [])

pub late_sends : (now slot id : ℕ) (s : Slot) → is_late_in now s ≡ true → tick_sends now slot id s ≡ map failed (clients_in s)
late_sends now slot id None is = absurd (false≢true is)
late_sends now slot id (Some w) is = ap (λ (b : Bool). sends_by slot id w b (is_due now w)) is

pub late_slot : (now id : ℕ) (s : Slot) → is_late_in now s ≡ true → ticked_slot now id s ≡ None
late_slot now id None is = refl
late_slot now id (Some w) is = ap (λ (b : Bool). slot_by now id w b (is_due now w)) is

pub due_sends : (now slot id : ℕ) (s : Slot) (question : Question) → is_late_in now s ≡ false → is_due_in now s ≡ true → IfSome s (λ w. question ≡ w.asker.question) → tick_sends now slot id s ≡ to_upstream slot Datagram (ask_octets question id) ∷ []
due_sends now slot id None question late due same = absurd (false≢true due)
due_sends now slot id (Some w) question late due same =
    let one : tick_sends now slot id (Some w) ≡ to_upstream slot Datagram (ask_octets w.asker.question id) ∷ [] = (λ i. sends_by slot id w (late i) (due i)) in
    one ∙ ap (λ (q : Question). to_upstream slot Datagram (ask_octets q id) ∷ []) (sym same)

pub due_slot : (now id : ℕ) (s : Slot) → is_late_in now s ≡ false → is_due_in now s ≡ true → ticked_slot now id s ≡ again_in now id s
due_slot now id None late due = absurd (false≢true due)
due_slot now id (Some w) late due = (λ i. slot_by now id w (late i) (due i))

pub rest_sends : (now slot id : ℕ) (s : Slot) → is_late_in now s ≡ false → is_due_in now s ≡ false → tick_sends now slot id s ≡ []
rest_sends now slot id None late due = refl
rest_sends now slot id (Some w) late due = (λ i. sends_by slot id w (late i) (due i))

pub rest_slot : (now id : ℕ) (s : Slot) → is_late_in now s ≡ false → is_due_in now s ≡ false → ticked_slot now id s ≡ s
rest_slot now id None late due = refl
rest_slot now id (Some w) late due = (λ i. slot_by now id w (late i) (due i))

-- ---- all slots

quiet_parts : (now : ℕ) (s : Slot) → is_quiet now s ≡ true → (is_late_in now s ≡ false) × (is_due_in now s ≡ false)
quiet_parts now s is = let parts = and_parts (not (is_late_in now s)) (not (is_due_in now s)) is in (not-true (is_late_in now s) parts.0, not-true (is_due_in now s) parts.1)

-- where nothing is due a tick does nothing
pub quiet_table : (now : ℕ) (ids : List ℕ) (table : List Slot) → ((k : ℕ) → k < length table → is_quiet now (slot_at table k) ≡ true) → ticked now ids table ≡ table
quiet_table now ids [] quiet = refl
quiet_table now ids (s ∷ ss) quiet =
    let here = quiet_parts now s (quiet 0 (omega arith)) in
    let one = rest_slot now (get_or ids 0 0) s here.0 here.1 in
    let rest = quiet_table now (drop 1 ids) ss (λ k h. quiet (suc k) (omega arith)) in
    (λ i. one i ∷ rest i)

pub quiet_sends : (now slot : ℕ) (ids : List ℕ) (table : List Slot) → ((k : ℕ) → k < length table → is_quiet now (slot_at table k) ≡ true) → ticks_from now slot ids table ≡ []
quiet_sends now slot ids [] quiet = refl
quiet_sends now slot ids (s ∷ ss) quiet =
    let here = quiet_parts now s (quiet 0 (omega arith)) in
    let one = rest_sends now slot (get_or ids 0 0) s here.0 here.1 in
    let rest = quiet_sends now (suc slot) (drop 1 ids) ss (λ k h. quiet (suc k) (omega arith)) in
    (λ i. one i ++ rest i)

-- ---- what is counted

late_append : (now : ℕ) (front back : List Slot) → late_clients now (front ++ back) ≡ late_clients now front ++ late_clients now back
late_append now [] back = refl
late_append now (s ∷ front) back = ap (λ (l : List Client). late_in now s ++ l) (late_append now front back) ∙ sym (append_assoc (late_in now s) (late_clients now front) (late_clients now back))

pub late_next : (now : ℕ) (table : List Slot) (i number number' here : ℕ) → i < length table → number ≡ length (late_clients now (take i table)) % 2 ^ 64 → here ≡ length (late_in now (slot_at table i)) → number' ≡ (number + here) % 2 ^ 64
    → number' ≡ length (late_clients now (take (i + 1) table)) % 2 ^ 64
late_next now table i number number' here within so_far is sum =
    let before = late_clients now (take i table) in
    let one = late_in now (slot_at table i) in
    let all : length (late_clients now (take (i + 1) table)) ≡ length before + length one = ap (λ (l : List Slot). length (late_clients now l)) (take_more table i None within)
    ∙ ap length (late_append now (take i table) (slot_at table i ∷ [])) ∙ length-append before (one ++ []) ∙ ap (λ (l : List Client). length before + length l) (append-nil one) in
    sum
    ∙ ap (λ (n : ℕ). (n + here) % 2 ^ 64) so_far
    ∙ mod-add-mod (length before) (2 ^ 64) here
    ∙ ap (λ (n : ℕ). (length before + n) % 2 ^ 64) is
    ∙ ap (λ (n : ℕ). n % 2 ^ 64) (sym all)

abbrev pub asked_again : ℕ → Slot → Bool
asked_again now s = not (is_late_in now s) && is_due_in now s

due_after : (now : ℕ) (table : List Slot) (i : ℕ) (test : Bool) → i < length table → test ≡ asked_again now (slot_at table i) → due_in now (take (i + 1) table) ≡ due_in now (take i table) + cond test 1 0
due_after now table i test within is =
    ap (λ (l : List Slot). due_in now l) (take_more table i None within)
    ∙ ap length (filter-append (asked_again now) (take i table) (slot_at table i ∷ []))
    ∙ length-append (filter (asked_again now) (take i table)) (filter (asked_again now) (slot_at table i ∷ []))
    ∙ ap (λ (b : Bool). due_in now (take i table) + length (cond b (slot_at table i ∷ []) [])) (sym is)
    ∙ one_of test
  where
    one_of : (b : Bool) → due_in now (take i table) + length (cond b (slot_at table i ∷ []) []) ≡ due_in now (take i table) + cond b 1 0
    one_of true = refl
    one_of false = refl

pub due_more : (now : ℕ) (table : List Slot) (i number : ℕ) (test : Bool) → i < length table → number ≡ due_in now (take i table) → test ≡ asked_again now (slot_at table i) → test ≡ true → number + 1 ≡ due_in now (take (i + 1) table)
due_more now table i number test within so_far is yes_is =
    ap (λ (n : ℕ). n + 1) so_far ∙ sym (due_after now table i true within (sym yes_is ∙ is))

pub due_same : (now : ℕ) (table : List Slot) (i number : ℕ) (test : Bool) → i < length table → number ≡ due_in now (take i table) → test ≡ asked_again now (slot_at table i) → test ≡ false → number ≡ due_in now (take (i + 1) table)
due_same now table i number test within so_far is no_is =
    let zero : due_in now (take i table) ≡ due_in now (take i table) + 0 = omega arith in
    so_far ∙ zero ∙ sym (due_after now table i false within (sym no_is ∙ is))

late_is : (now : ℕ) (s : Slot) → is_late_in now s ≡ true → late_in now s ≡ clients_in s
late_is now None late = refl
late_is now (Some w) late = ap (λ (b : Bool). cond b (clients_in (Some w)) []) late

late_is_not : (now : ℕ) (s : Slot) → is_late_in now s ≡ false → late_in now s ≡ []
late_is_not now None late = refl
late_is_not now (Some w) late = ap (λ (b : Bool). cond b (clients_in (Some w)) []) late

pub late_counted : (now number : ℕ) (s : Slot) → is_late_in now s ≡ true → number ≡ length (clients_in s) → number ≡ length (late_in now s)
late_counted now number s late is = is ∙ ap length (sym (late_is now s late))

pub none_late : (now : ℕ) (s : Slot) → is_late_in now s ≡ false → 0 ≡ length (late_in now s)
none_late now s late = ap length (sym (late_is_not now s late))

-- where nothing is due a tick counts nothing
pub quiet_late : (now : ℕ) (table : List Slot) → ((k : ℕ) → k < length table → is_quiet now (slot_at table k) ≡ true) → late_clients now table ≡ []
quiet_late now [] quiet = refl
quiet_late now (s ∷ ss) quiet =
    let here = late_is_not now s (quiet_parts now s (quiet 0 (omega arith))).0 in
    let rest = quiet_late now ss (λ k h. quiet (suc k) (omega arith)) in
    (λ i. here i ++ rest i)

pub quiet_due : (now : ℕ) (table : List Slot) → ((k : ℕ) → k < length table → is_quiet now (slot_at table k) ≡ true) → due_in now table ≡ 0
quiet_due now [] quiet = refl
quiet_due now (s ∷ ss) quiet =
    let here = quiet_parts now s (quiet 0 (omega arith)) in
    let test : asked_again now s ≡ false = (λ i. not (here.0 i) && here.1 i) in
    let rest = quiet_due now ss (λ k h. quiet (suc k) (omega arith)) in
    ap (λ (b : Bool). length (cond b (s ∷ filter (asked_again now) ss) (filter (asked_again now) ss))) test ∙ rest

-- and leaves the counts as they are, which are each below 2^64
pub quiet_counts : (now : ℕ) (ids : List ℕ) (table : List Slot) (counts : List ℕ) → ((k : ℕ) → k < length table → is_quiet now (slot_at table k) ≡ true)
    → count_of counts counters.Late < 2 ^ 64 → count_of counts counters.AskedAgain < 2 ^ 64 → counted (tick_done now ids table).tallies counts ≡ counts
quiet_counts now ids table counts quiet late again =
    let first = ap (λ (l : List Client). with_tally counts (times (length l) counters.Late)) (quiet_late now table quiet) ∙ none_more counts counters.Late late in
    ap (λ (l : List ℕ). with_tally l (times (due_in now table) counters.AskedAgain)) first
    ∙ ap (λ (n : ℕ). with_tally counts (times n counters.AskedAgain)) (quiet_due now table quiet)
    ∙ none_more counts counters.AskedAgain again

-- late clients modulo 2^64 and those that are due are counted as all are
pub tick_counted : (now : ℕ) (table : List Slot) (counts counts' : List ℕ) (late due : ℕ) → late ≡ length (late_clients now table) % 2 ^ 64 → counts' ≡ with_tally counts (times late counters.Late) → due ≡ due_in now table
    → with_tally counts' (times due counters.AskedAgain) ≡ counted (tick_done now [] table).tallies counts
tick_counted now table counts counts' late due late_is counting due_is =
    let all = length (late_clients now table) in
    let first : counts' ≡ with_tally counts (times all counters.Late) = counting ∙ ap (λ (n : ℕ). with_tally counts (times n counters.Late)) late_is
    ∙ ap (set counts (index_of counters.Late)) (add-mod-mod (count_of counts counters.Late) all (2 ^ 64)) in
    ap (λ (l : List ℕ). with_tally l (times due counters.AskedAgain)) first
    ∙ ap (λ (n : ℕ). with_tally (with_tally counts (times all counters.Late)) (times n counters.AskedAgain)) due_is

-- ---- one more slot

module _ (now : ℕ) (ids : List ℕ) (table : List Slot) (i : ℕ) (within : i < length table) where
  first_id : get_or (drop i ids) 0 0 ≡ get_or ids i 0
  first_id = get_or-drop i ids 0 0 ∙ ap (λ (n : ℕ). get_or ids n 0) (omega arith)

  later_ids : drop 1 (drop i ids) ≡ drop (i + 1) ids
  later_ids = drop-drop 1 i ids

  first_slot : drop i table ≡ slot_at table i ∷ drop (i + 1) table
  first_slot = drop_more table i None within

  -- what is left of a tick begins with the slot that is next
  pub sends_next : ticks_from now i (drop i ids) (drop i table) ≡ tick_sends now i (get_or ids i 0) (slot_at table i) ++ ticks_from now (i + 1) (drop (i + 1) ids) (drop (i + 1) table)
  sends_next =
      let rest = drop (i + 1) table in
      let here : ticks_from now i (drop i ids) (slot_at table i ∷ rest) ≡ tick_sends now i (get_or ids i 0) (slot_at table i) ++ ticks_from now (suc i) (drop (i + 1) ids) rest = (λ k. tick_sends now i (first_id k) (slot_at table i) ++ ticks_from now (suc i) (later_ids k) rest) in
      let more : suc i ≡ i + 1 = omega arith in
      ap (ticks_from now i (drop i ids)) first_slot ∙ here ∙ ap (λ (n : ℕ). tick_sends now i (get_or ids i 0) (slot_at table i) ++ ticks_from now n (drop (i + 1) ids) rest) more

  slots_next : ticked now (drop i ids) (drop i table) ≡ ticked_slot now (get_or ids i 0) (slot_at table i) ∷ ticked now (drop (i + 1) ids) (drop (i + 1) table)
  slots_next =
      let rest = drop (i + 1) table in
      let here : ticked now (drop i ids) (slot_at table i ∷ rest) ≡ ticked_slot now (get_or ids i 0) (slot_at table i) ∷ ticked now (drop (i + 1) ids) rest = (λ k. ticked_slot now (first_id k) (slot_at table i) ∷ ticked now (later_ids k) rest) in
      ap (ticked now (drop i ids)) first_slot ∙ here

  abbrev ticked_to : List Slot
  ticked_to = set table i (ticked_slot now (get_or ids i 0) (slot_at table i))

  still_left : drop (i + 1) ticked_to ≡ drop (i + 1) table
  still_left = drop-set-lt (i + 1) table i (ticked_slot now (get_or ids i 0) (slot_at table i)) (omega arith)

  -- with the slots that are left, those that were ticked give the whole
  pub table_next : (all : List Slot) → take i table ++ ticked now (drop i ids) (drop i table) ≡ all → take (i + 1) ticked_to ++ ticked now (drop (i + 1) ids) (drop (i + 1) ticked_to) ≡ all
  table_next all whole =
      let one = ticked_slot now (get_or ids i 0) (slot_at table i) in
      let rest = ticked now (drop (i + 1) ids) (drop (i + 1) table) in
      let parts : take (i + 1) ticked_to ++ ticked now (drop (i + 1) ids) (drop (i + 1) ticked_to) ≡ (take i table ++ one ∷ []) ++ rest = (λ k. take_more_set table i one within k ++ ticked now (drop (i + 1) ids) (still_left k)) in
      parts
      ∙ append_assoc (take i table) (one ∷ []) rest
      ∙ ap (λ (l : List Slot). take i table ++ l) (sym slots_next)
      ∙ whole

  -- and what is left to send does
  pub told_next : (told before after : Option Told) (table' : List Slot) (all : List Sent) → more_sent before (ticks_from now i (drop i ids) (drop i table)) ≡ more_sent told all
      → after ≡ more_sent before (tick_sends now i (get_or ids i 0) (slot_at table i)) → table' ≡ ticked_to → more_sent after (ticks_from now (i + 1) (drop (i + 1) ids) (drop (i + 1) table')) ≡ more_sent told all
  told_next told before after table' all whole sent is =
      ap (λ (t : List Slot). more_sent after (ticks_from now (i + 1) (drop (i + 1) ids) (drop (i + 1) t))) is
      ∙ ap (λ (t : List Slot). more_sent after (ticks_from now (i + 1) (drop (i + 1) ids) t)) still_left
      ∙ whole_nexts told before after (tick_sends now i (get_or ids i 0) (slot_at table i)) (ticks_from now i (drop i ids) (drop i table)) (ticks_from now (i + 1) (drop (i + 1) ids) (drop (i + 1) table)) all sends_next whole sent

-- once no slot is left
pub ticked_all : (now : ℕ) (ids : List ℕ) (table : List Slot) (i : ℕ) → length table ≤ i → table ≡ take i table ++ ticked now ids (drop i table)
ticked_all now ids table i past =
    let parts : table ++ ticked now ids [] ≡ take i table ++ ticked now ids (drop i table) = (λ k. sym (take_all i table past) k ++ ticked now ids (sym (drop_all i table past) k)) in
    sym (append-nil table) ∙ parts
