-- A question is asked by a stream once at most.
use Rattle.std.proofs.Common.{◌≡◌, ◌∙◌, ℕ, ◌+◌, ◌≤◌, ⊎_elim, Bool, true, false, cond, List, [], ◌∷◌, set, refl, ap, sym, subst, arith, Some, None}
use Rattle.std.specs.Prelude.{◌==◌, ◌&&◌}
use Rattle.std.proofs.lemmas.Bool.{eqb-true}
use Rattle.std.proofs.lemmas.Bool.Decides.{nat_tests}
use Rattle.arrivals.specs.declared.carrier.Carrier.{Carrier}
use Rattle.arrivals.specs.declared.carrier.Carrier.TheVariants.{Datagram, Stream}
use Rattle.waiting_table.specs.declared.client.Client.{Client}
use Rattle.waiting_table.specs.declared.place.Place.{Place}
use Rattle.waiting_table.specs.declared.place.Place.TheVariants.{Joins, Fills, Replaces}
use Rattle.waiting_table.specs.Waiting.{Slot, again, asked_by_stream, empty_table, first_asked, is_due, is_late, may_ask_by_stream, same_carrier, slot_at, with_client}
use Rattle.waiting_table.specs.Steps.{Step, Asked, Answered, AskedByStream, Ticked, after_one, place_for, placed, ticked_slot}
use Rattle.waiting_table.specs.Laws.{comes_to, is_new_at, streams_in, streams_since}
use Rattle.waiting_table.proofs.SlotLemmas.{changed_at, set_slot, ticked_at}

-- how often the question may yet be asked by a stream
abbrev left_in : Slot → ℕ
left_in slot = cond (may_ask_by_stream slot) 1 0

-- ---- one slot

left_joined : (client : Client) (slot : Slot) → left_in (with_client client slot) ≡ left_in slot
left_joined client None = refl
left_joined client (Some w) = refl

left_streamed : (id : ℕ) (slot : Slot) → left_in slot + left_in (asked_by_stream id slot) ≤ left_in slot
left_streamed id None = omega arith
left_streamed id (Some w) = by w.by
  where
    by : (last : Carrier) → cond (same_carrier last Datagram) 1 0 + left_in (cond (same_carrier last Datagram) (Some (record w { by = Stream; id = id })) (Some (record w { by = last }))) ≤ cond (same_carrier last Datagram) 1 0
    by Datagram = omega arith
    by Stream = omega arith

left_ticked : (now id : ℕ) (slot : Slot) → left_in (ticked_slot now id slot) ≤ left_in slot
left_ticked now id None = omega arith
left_ticked now id (Some w) = by (is_late now w) (is_due now w)
  where
    by : (late due : Bool) → left_in (cond late None (cond due (Some (again now id w)) (Some w))) ≤ left_in (Some w)
    by true due = omega arith
    by false true = omega arith
    by false false = omega arith

-- ---- a step

-- what is set elsewhere leaves the slot
elsewhere : (table : List Slot) (other slot : ℕ) (new : Slot) → (other == slot) ≡ false → slot_at (set table other new) slot ≡ slot_at table slot
elsewhere table other slot new apart =
    ⊎_elim (λ h. absurd (grind (arith, nat_tests, h.0, apart))) (λ h. h) (set_slot table other new slot)

left_placed : (now id : ℕ) (client : Client) (table : List Slot) (slot : ℕ) (place : Place) → is_new_at slot place ≡ false → left_in (slot_at (placed now id client table place) slot) ≡ left_in (slot_at table slot)
left_placed now id client table slot (Joins other) old = ⊎_elim
    (λ h. ap left_in h.1 ∙ left_joined client (slot_at table other) ∙ ap (λ (k : ℕ). left_in (slot_at table k)) (sym h.0))
    (λ h. ap left_in h)
    (set_slot table other (with_client client (slot_at table other)) slot)
left_placed now id client table slot (Fills other) old = ap left_in (elsewhere table other slot (Some (first_asked now id client)) old)
left_placed now id client table slot (Replaces other) old = ap left_in (elsewhere table other slot (Some (first_asked now id client)) old)

left_freed : (table : List Slot) (other slot : ℕ) → left_in (slot_at (set table other None) slot) ≤ left_in (slot_at table slot)
left_freed table other slot = ⊎_elim
    (λ h. let none = ap left_in h.1 in omega arith)
    (λ h. let same = ap left_in h in omega arith)
    (set_slot table other None slot)

left_asked : (id : ℕ) (table : List Slot) (other slot : ℕ) (here : Bool) → (other == slot) ≡ here
    → cond (here && may_ask_by_stream (slot_at table slot)) 1 0 + left_in (slot_at (set table other (asked_by_stream id (slot_at table other))) slot) ≤ left_in (slot_at table slot)
left_asked id table other slot true is =
    subst (λ (k : ℕ). left_in (slot_at table slot) + left_in (slot_at (set table k (asked_by_stream id (slot_at table k))) slot) ≤ left_in (slot_at table slot)) (sym (eqb-true other slot is))
    (let at = ap left_in (changed_at (asked_by_stream id) table slot refl) in
    let streamed = left_streamed id (slot_at table slot) in
    omega arith)
left_asked id table other slot false is =
    let same = ap left_in (elsewhere table other slot (asked_by_stream id (slot_at table other)) is) in omega arith

-- unless a question comes to the slot, what it may yet be asked is what it was, without what it is asked now
step_leaves : (slot : ℕ) (step : Step) (table : List Slot) → comes_to slot step table ≡ false
    → streams_in slot step table + left_in (slot_at (after_one step table) slot) ≤ left_in (slot_at table slot)
step_leaves slot (Asked now id client) table old =
    let same = left_placed now id client table slot (place_for client.question table) old in omega arith
step_leaves slot (Answered other) table old = let freed = left_freed table other slot in omega arith
step_leaves slot (AskedByStream other id) table old = left_asked id table other slot (other == slot) refl
step_leaves slot (Ticked now ids) table old =
    let at = ticked_at now ids table slot in
    let same = ap left_in at.1 in
    let less = left_ticked now at.0 (slot_at table slot) in
    omega arith

-- ---- a run

once_at_most : (slot : Slot) → left_in slot ≤ 1
once_at_most slot = by (may_ask_by_stream slot)
  where
    by : (may : Bool) → cond may 1 0 ≤ 1
    by true = omega arith
    by false = omega arith

streams_bounded : (slot before : ℕ) (steps : List Step) (table : List Slot) → before + left_in (slot_at table slot) ≤ 1 → streams_since slot before steps table ≤ 1
streams_bounded slot before [] table few = omega arith
streams_bounded slot before (step ∷ more) table few =
    by (comes_to slot step table) refl (λ n h. streams_bounded slot n more (after_one step table) h)
  where
    by : (comes : Bool) → comes_to slot step table ≡ comes
        → ((n : ℕ) → n + left_in (slot_at (after_one step table) slot) ≤ 1 → streams_since slot n more (after_one step table) ≤ 1)
        → streams_since slot (cond comes 0 (before + streams_in slot step table)) more (after_one step table) ≤ 1
    by true is rest = rest 0 (let once = once_at_most (slot_at (after_one step table) slot) in omega arith)
    by false is rest = rest (before + streams_in slot step table) (let leaves = step_leaves slot step table is in omega arith)

pub each_by_stream_once : (slot : ℕ) (steps : List Step) → streams_since slot 0 steps empty_table ≤ 1
each_by_stream_once slot steps = streams_bounded slot 0 steps empty_table (let once = once_at_most (slot_at empty_table slot) in omega arith)
