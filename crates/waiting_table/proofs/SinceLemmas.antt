-- A question waits from its coming.
use Rattle.std.proofs.Common.{◌≡◌, ℕ, zero, suc, ◌+◌, ◌*◌, ◌<◌, ⊎_elim, Bool, true, false, cond, List, [], ◌∷◌, set, refl, ap, sym, subst, arith, Some, None}
use Rattle.std.specs.Prelude.{◌==◌, ◌&&◌, IfSome, nat_le, nat_lt}
use Rattle.std.proofs.lemmas.Bool.{eqb-true}
use Rattle.std.proofs.lemmas.Bool.Decides.{nat_tests}
use Rattle.arrivals.specs.declared.carrier.Carrier.{Carrier}
use Rattle.arrivals.specs.declared.carrier.Carrier.TheVariants.{Datagram, Stream}
use Rattle.waiting_table.specs.declared.client.Client.{Client}
use Rattle.waiting_table.specs.declared.place.Place.{Place}
use Rattle.waiting_table.specs.declared.place.Place.TheVariants.{Joins, Fills, Replaces}
use Rattle.waiting_table.specs.Waiting.{Slot, Waiting, again, asked_by_stream, empty_table, first_asked, is_due, is_late, same_carrier, slot_at, with_client}
use Rattle.waiting_table.specs.Steps.{Step, Asked, Answered, AskedByStream, Ticked, after_one, place_for, placed, ticked, ticked_slot}
use Rattle.waiting_table.specs.Laws.{IsInTime, after, came_at, came_in, is_new_at}
use Rattle.waiting_table.proofs.OnceLemmas.{in_time}
use Rattle.waiting_table.proofs.SlotLemmas.{free_at, set_slot, ticked_at}

-- ---- when a question is due

due_by : (now last times wait : ℕ) (by : Carrier) → by ≡ Datagram → nat_lt times 3 ≡ true → 1000 * times ≡ wait
    → same_carrier by Datagram && nat_lt times 3 && nat_le (last + 1000 * times) now ≡ nat_le (last + wait) now
due_by now last times wait by is few step = rw (is, few, step) refl

pub due_after_first : (now : ℕ) (waiting : Waiting) → waiting.by ≡ Datagram → waiting.times ≡ 1 → is_due now waiting ≡ nat_le (waiting.last + 1000) now
due_after_first now waiting by times = due_by now waiting.last waiting.times 1000 waiting.by by (ap (λ (n : ℕ). nat_lt n 3) times) (ap (λ (n : ℕ). 1000 * n) times)

pub due_after_second : (now : ℕ) (waiting : Waiting) → waiting.by ≡ Datagram → waiting.times ≡ 2 → is_due now waiting ≡ nat_le (waiting.last + 2000) now
due_after_second now waiting by times = due_by now waiting.last waiting.times 2000 waiting.by by (ap (λ (n : ℕ). nat_lt n 3) times) (ap (λ (n : ℕ). 1000 * n) times)

-- ---- one slot

-- a question that waits in it counts from then
abbrev CountsFrom : ℕ → Slot → Type 0
CountsFrom moment slot = IfSome slot (λ waiting. waiting.since ≡ moment)

from_joined : (moment : ℕ) (client : Client) (slot : Slot) → CountsFrom moment slot → CountsFrom moment (with_client client slot)
from_joined moment client None from = tt
from_joined moment client (Some w) from = from

from_streamed : (moment id : ℕ) (slot : Slot) → CountsFrom moment slot → CountsFrom moment (asked_by_stream id slot)
from_streamed moment id None from = tt
from_streamed moment id (Some w) from = by (same_carrier w.by Datagram)
  where
    by : (may : Bool) → CountsFrom moment (cond may (Some (record w { by = Stream; id = id })) (Some w))
    by true = from
    by false = from

from_ticked : (moment now id : ℕ) (slot : Slot) → CountsFrom moment slot → CountsFrom moment (ticked_slot now id slot)
from_ticked moment now id None from = tt
from_ticked moment now id (Some w) from = by (is_late now w) (is_due now w)
  where
    by : (late due : Bool) → CountsFrom moment (cond late None (cond due (Some (again now id w)) (Some w)))
    by true due = tt
    by false true = from
    by false false = from

-- ---- a step

-- what is set there counts from then, or the table has no such slot
from_set : (moment : ℕ) (table : List Slot) (k : ℕ) (new : Slot) → CountsFrom moment new → CountsFrom moment (slot_at (set table k new) k)
from_set moment [] k new from = tt
from_set moment (s ∷ ss) zero new from = from
from_set moment (s ∷ ss) (suc k) new from = from_set moment ss k new from

-- what is set at any place counts from then, where what stood at the slot did
from_set_any : (moment : ℕ) (table : List Slot) (k slot : ℕ) (new : Slot) → (slot ≡ k → CountsFrom moment new) → CountsFrom moment (slot_at table slot) → CountsFrom moment (slot_at (set table k new) slot)
from_set_any moment table k slot new there from = ⊎_elim
    (λ h. subst (CountsFrom moment) (sym h.1) (there h.0))
    (λ h. subst (CountsFrom moment) (sym h) from)
    (set_slot table k new slot)

-- a change that leaves the moment
from_changed : (moment : ℕ) (change : Slot → Slot) (table : List Slot) (k slot : ℕ) → ((s : Slot) → CountsFrom moment s → CountsFrom moment (change s)) → CountsFrom moment (slot_at table slot) → CountsFrom moment (slot_at (set table k (change (slot_at table k))) slot)
from_changed moment change table k slot keeps from =
    from_set_any moment table k slot (change (slot_at table k)) (λ (e : slot ≡ k). keeps (slot_at table k) (subst (λ (i : ℕ). CountsFrom moment (slot_at table i)) e from)) from

from_filled : (now before id : ℕ) (client : Client) (table : List Slot) (k slot : ℕ) (here : Bool) → (k == slot) ≡ here → CountsFrom before (slot_at table slot)
    → CountsFrom (cond here now before) (slot_at (set table k (Some (first_asked now id client))) slot)
from_filled now before id client table k slot true is from =
    subst (λ (i : ℕ). CountsFrom now (slot_at (set table k (Some (first_asked now id client))) i)) (eqb-true k slot is) (from_set now table k (Some (first_asked now id client)) refl)
from_filled now before id client table k slot false is from =
    from_set_any before table k slot (Some (first_asked now id client)) (λ (e : slot ≡ k). absurd (grind (arith, nat_tests, e, is))) from

from_placed : (now before id : ℕ) (client : Client) (table : List Slot) (slot : ℕ) (place : Place) → CountsFrom before (slot_at table slot)
    → CountsFrom (cond (is_new_at slot place) now before) (slot_at (placed now id client table place) slot)
from_placed now before id client table slot (Joins k) from = from_changed before (with_client client) table k slot (from_joined before client) from
from_placed now before id client table slot (Fills k) from = from_filled now before id client table k slot (k == slot) refl from
from_placed now before id client table slot (Replaces k) from = from_filled now before id client table k slot (k == slot) refl from

from_step : (slot before : ℕ) (step : Step) (table : List Slot) → CountsFrom before (slot_at table slot) → CountsFrom (came_in slot before step table) (slot_at (after_one step table) slot)
from_step slot before (Asked now id client) table from = from_placed now before id client table slot (place_for client.question table) from
from_step slot before (Answered k) table from = from_set_any before table k slot None (λ e. tt) from
from_step slot before (AskedByStream k id) table from = from_changed before (asked_by_stream id) table k slot (from_streamed before id) from
from_step slot before (Ticked now ids) table from =
    let at = ticked_at now ids table slot in
    subst (CountsFrom before) (sym at.1) (from_ticked before now at.0 (slot_at table slot) from)

-- ---- a run

from_run : (slot before : ℕ) (steps : List Step) (table : List Slot) → CountsFrom before (slot_at table slot) → CountsFrom (came_at slot before steps table) (slot_at (after steps table) slot)
from_run slot before [] table from = from
from_run slot before (step ∷ more) table from =
    from_run slot (came_in slot before step table) more (after_one step table) (from_step slot before step table from)

none_counts : (slot : ℕ) → CountsFrom 0 (slot_at empty_table slot)
unfolding empty_table
none_counts slot = subst (CountsFrom 0) (sym (free_at 256 slot)) tt

pub each_from_its_coming : (slot : ℕ) (steps : List Step) → CountsFrom (came_at slot 0 steps empty_table) (slot_at (after steps empty_table) slot)
each_from_its_coming slot steps = from_run slot 0 steps empty_table (none_counts slot)

-- what is in time and counts from then
in_time_from : (moment now : ℕ) (slot : Slot) → CountsFrom moment slot → IsInTime now slot → IfSome slot (λ waiting. now < moment + 4500)
in_time_from moment now None from time = tt
in_time_from moment now (Some w) from time = omega (arith, from, time)

pub never_for_long_since : (slot now : ℕ) (ids : List ℕ) (steps : List Step) → IfSome (slot_at (ticked now ids (after steps empty_table)) slot) (λ waiting. now < came_at slot 0 steps empty_table + 4500)
never_for_long_since slot now ids steps =
    let at = ticked_at now ids (after steps empty_table) slot in
    let moment = came_at slot 0 steps empty_table in
    let old = slot_at (after steps empty_table) slot in
    subst (λ (s : Slot). IfSome s (λ waiting. now < moment + 4500)) (sym at.1)
    (in_time_from moment now (ticked_slot now at.0 old) (from_ticked moment now at.0 old (each_from_its_coming slot steps)) (in_time now at.0 old))
