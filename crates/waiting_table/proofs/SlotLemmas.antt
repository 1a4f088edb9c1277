-- Slots of a table, by their places, and what a slot takes.
use Rattle.std.proofs.Common.{◌≡◌, ℕ, zero, suc, ◌<◌, ◌≤◌, ◌⊎◌, inl, inr, ⊎_elim, Bool, true, false, cond, List, [], ◌∷◌, ◌++◌, length, get_or, set, drop, replicate, refl, ap, sym, subst, arith, length-append, Option, Some, None}
use Rattle.std.specs.Prelude.{◌==◌, ◌&&◌, is_none, nat_le, nat_lt}
use Rattle.std.specs.List.{list_all, position, position_or_len}
use Rattle.std.specs.Cmp.{booleans_Decides}
use Rattle.std.proofs.lemmas.Bool.{and_parts, and_from, both_ways, cases_lt, eqb-true, le-leb, ltb-false}
use Rattle.std.proofs.lemmas.Bool.Decides.{nat_tests}
use Rattle.std.proofs.lemmas.List.Quantifiers.{position-Some}
use Rattle.std.proofs.lemmas.List.{get_or_past}
use Rattle.std.proofs.lemmas.List.Sums.{fails_before_first}
use Rattle.dname.specs.Tests.{same_name}
use Rattle.dname.proofs.SameLemmas.{name_equal}
use mathlib.Core.Bool.{beq}
use Rattle.dnswire.specs.declared.question.Question.{Question}
use Rattle.waiting_table.specs.declared.client.Client.{Client}
use Rattle.arrivals.specs.declared.carrier.Carrier.TheVariants.{Datagram, Stream}
use Rattle.waiting_table.specs.Waiting.{Slot, again, asked_by_stream, is_due, is_late, same_asked, same_carrier, slot_at, takes, with_client}
use Rattle.waiting_table.specs.declared.place.Place.{Place}
use Rattle.waiting_table.specs.declared.place.Place.TheVariants.{Joins, Fills, Replaces}
use Rattle.waiting_table.specs.Steps.{is_oldest, oldest, place_for, place_of, since_of, ticked, ticked_slot}

-- ---- places

-- what stands at a place after a slot was set
pub set_slot : (table : List Slot) (k : ℕ) (slot : Slot) (i : ℕ) → ((i ≡ k) × (slot_at (set table k slot) i ≡ slot)) ⊎ (slot_at (set table k slot) i ≡ slot_at table i)
set_slot [] k slot i = inr refl
set_slot (s ∷ ss) zero slot zero = inl (refl, refl)
set_slot (s ∷ ss) zero slot (suc i) = inr refl
set_slot (s ∷ ss) (suc k) slot zero = inr refl
set_slot (s ∷ ss) (suc k) slot (suc i) = ⊎_elim (λ h. inl (ap suc h.0, h.1)) (λ h. inr h) (set_slot ss k slot i)

pub free_at : (n i : ℕ) → slot_at (replicate n None) i ≡ None
free_at zero i = refl
free_at (suc n) zero = refl
free_at (suc n) (suc i) = free_at n i

-- what stands at a place after its slot was changed
pub changed_at : (change : Slot → Slot) (table : List Slot) (k : ℕ) → change None ≡ None → slot_at (set table k (change (slot_at table k))) k ≡ change (slot_at table k)
changed_at change [] k free = sym free
changed_at change (s ∷ ss) zero free = refl
changed_at change (s ∷ ss) (suc k) free = changed_at change ss k free

-- what stands at a place after a tick
pub ticked_at : (now : ℕ) (ids : List ℕ) (table : List Slot) (i : ℕ) → (id : ℕ) × (slot_at (ticked now ids table) i ≡ ticked_slot now id (slot_at table i))
ticked_at now ids [] i = (0, refl)
ticked_at now ids (s ∷ ss) zero = (get_or ids 0 0, refl)
ticked_at now ids (s ∷ ss) (suc i) = ticked_at now (drop 1 ids) ss i

-- ---- what is the same question

-- the parts of two questions that are the same
pub record AreSame (one other : Question) : Type 0 where
  pub name : one.name ≡ other.name
  pub qtype : one.qtype ≡ other.qtype
  pub qclass : one.qclass ≡ other.qclass
  pub cd : one.cd ≡ other.cd

pub parts_of_same : (one other : Question) → same_asked one other ≡ true → AreSame one other
parts_of_same one other same =
    let cd = and_parts (same_name one.name other.name && (one.qtype == other.qtype) && (one.qclass == other.qclass)) (beq one.cd other.cd) same in
    let qclass = and_parts (same_name one.name other.name && (one.qtype == other.qtype)) (one.qclass == other.qclass) cd.0 in
    let qtype = and_parts (same_name one.name other.name) (one.qtype == other.qtype) qclass.0 in
    record {
      name = name_equal one.name other.name qtype.0;
      qtype = eqb-true one.qtype other.qtype qtype.1;
      qclass = eqb-true one.qclass other.qclass qclass.1;
      cd = (booleans_Decides one.cd other.cd).0 cd.1;
    }

-- what is the same as one of two that are the same is the same as the other
pub same_as_both : (question one other : Question) → same_asked one other ≡ true → same_asked question one ≡ same_asked question other
same_as_both question one other same =
    let parts = parts_of_same one other same in
    (λ i. same_name question.name (parts.name i) && (question.qtype == parts.qtype i) && (question.qclass == parts.qclass i) && beq question.cd (parts.cd i))

-- ---- what a slot takes

-- a slot takes each question that is the same as one which it takes
pub takes_both : (one other : Question) (slot : Slot) → same_asked one other ≡ true → takes one slot ≡ takes other slot
takes_both one other None same = refl
takes_both one other (Some w) same = ap (λ (b : Bool). b && nat_lt (length (w.asker ∷ w.joined)) 16) (same_as_both w.asker.question one other same)

-- a slot that takes no client takes none when one more has joined
full_still : (n : ℕ) → nat_lt (suc n) 16 ≡ true → nat_lt n 16 ≡ true
full_still n h = grind (arith, nat_tests)

pub takes_less : (question : Question) (client : Client) (slot : Slot) → takes question (with_client client slot) ≡ true → takes question slot ≡ true
takes_less question client None h = h
takes_less question client (Some w) h =
    let parts = and_parts (same_asked w.asker.question question) (nat_lt (length (w.asker ∷ (w.joined ++ client ∷ []))) 16) h in
    and_from _ _ parts.0 (full_still (length (w.asker ∷ w.joined)) (subst (λ (n : ℕ). nat_lt n 16 ≡ true) (omega (arith, length-append w.joined (client ∷ []))) parts.1))

-- a slot that takes a question after a tick took it before
pub takes_ticked : (question : Question) (now id : ℕ) (slot : Slot) → takes question (ticked_slot now id slot) ≡ true → takes question slot ≡ true
takes_ticked question now id None h = h
takes_ticked question now id (Some w) h = by (is_late now w) (is_due now w) h
  where
    by : (late due : Bool) → takes question (cond late None (cond due (Some (again now id w)) (Some w))) ≡ true → takes question (Some w) ≡ true
    by true due h = absurd (cc h)
    by false true h = h
    by false false h = h

-- a slot that takes a question once it is asked by a stream took it before
pub takes_streamed : (question : Question) (id : ℕ) (slot : Slot) → takes question (asked_by_stream id slot) ≡ true → takes question slot ≡ true
takes_streamed question id None h = h
takes_streamed question id (Some w) h = by (same_carrier w.by Datagram) h
  where
    by : (may : Bool) → takes question (cond may (Some (record w { by = Stream; id = id })) (Some w)) ≡ true → takes question (Some w) ≡ true
    by true h = h
    by false h = h

-- ---- the first slot that passes a test

pub found : (test : Slot → Bool) (table : List Slot) (k : ℕ) → position test table ≡ Some k → (k < length table) × (test (slot_at table k) ≡ true)
found test table k is = let h = position-Some test table k None is in (h.0, h.1)

none_past : (n m : ℕ) (b : Bool) → nat_lt n m ≡ b → cond b (Some n) None ≡ None → m ≤ n
none_past n m true is h = absurd (cc h)
none_past n m false is h = ltb-false n m is

-- where none is found, none passes
pub none_found : (test : Slot → Bool) (table : List Slot) → test None ≡ false → position test table ≡ None → (i : ℕ) → test (slot_at table i) ≡ false
none_found test table free is i =
    let past : length table ≤ position_or_len test table = none_past (position_or_len test table) (length table) (nat_lt (position_or_len test table) (length table)) refl is in
    ⊎_elim (λ (h : i < length table). fails_before_first test table i None (omega arith))
    (λ (h : length table ≤ i). subst (λ (s : Slot). test s ≡ false) (sym (get_or_past table i None h)) free)
    (cases_lt i (length table))

-- ---- the oldest

-- some slot's question waits longest
least_exists : (s : Slot) (ss : List Slot) → (k : ℕ) × (k < length (s ∷ ss)) × ((j : ℕ) → j < length (s ∷ ss) → since_of (slot_at (s ∷ ss) k) ≤ since_of (slot_at (s ∷ ss) j))
least_exists s [] = (0, omega arith, λ j h. first_alone j h)
  where
    first_alone : (j : ℕ) → j < 1 → since_of s ≤ since_of (slot_at (s ∷ []) j)
    first_alone zero h = omega arith
    first_alone (suc j) h = absurd (omega arith)
least_exists s (t ∷ ts) = by (least_exists t ts)
  where
    by : (k : ℕ) × (k < length (t ∷ ts)) × ((j : ℕ) → j < length (t ∷ ts) → since_of (slot_at (t ∷ ts) k) ≤ since_of (slot_at (t ∷ ts) j))
        → (k : ℕ) × (k < length (s ∷ t ∷ ts)) × ((j : ℕ) → j < length (s ∷ t ∷ ts) → since_of (slot_at (s ∷ t ∷ ts) k) ≤ since_of (slot_at (s ∷ t ∷ ts) j))
    by (k, within, least) = ⊎_elim
        (λ (h : since_of s < since_of (slot_at (t ∷ ts) k)). (0, omega arith, λ j i. first_least j h i))
        (λ (h : since_of (slot_at (t ∷ ts) k) ≤ since_of s). (suc k, omega arith, λ j i. other_least j h i))
        (cases_lt (since_of s) (since_of (slot_at (t ∷ ts) k)))
      where
        first_least : (j : ℕ) → since_of s < since_of (slot_at (t ∷ ts) k) → j < length (s ∷ t ∷ ts) → since_of s ≤ since_of (slot_at (s ∷ t ∷ ts) j)
        first_least zero h i = omega arith
        first_least (suc j) h i = let l = least j (omega arith) in omega arith

        other_least : (j : ℕ) → since_of (slot_at (t ∷ ts) k) ≤ since_of s → j < length (s ∷ t ∷ ts) → since_of (slot_at (t ∷ ts) k) ≤ since_of (slot_at (s ∷ t ∷ ts) j)
        other_least zero h i = h
        other_least (suc j) h i = least j (omega arith)

-- what passes at each place passes at all
pub passes_all : (test : Slot → Bool) (table : List Slot) → ((j : ℕ) → j < length table → test (slot_at table j) ≡ true) → list_all test table ≡ true
passes_all test [] each = refl
passes_all test (s ∷ ss) each = and_from (test s) (list_all test ss) (each 0 (omega arith)) (passes_all test ss (λ j h. each (suc j) (omega arith)))

oldest_of : (s : Slot) (ss : List Slot) (k : ℕ) → k < length (s ∷ ss) → ((j : ℕ) → j < length (s ∷ ss) → since_of (slot_at (s ∷ ss) k) ≤ since_of (slot_at (s ∷ ss) j)) → oldest (s ∷ ss) < length (s ∷ ss)
oldest_of s ss k within least =
    let table = s ∷ ss in
    let passes : is_oldest table (slot_at table k) ≡ true = passes_all (λ other. nat_le (since_of (slot_at table k)) (since_of other)) table (λ j h. le-leb _ _ (least j h)) in
    ⊎_elim (λ (h : oldest table < length table). h)
    (λ (h : length table ≤ oldest table). absurd (both_ways _ (fails_before_first (is_oldest table) table k None (omega arith)) passes))
    (cases_lt (oldest table) (length table))

-- the oldest is one of the slots
pub oldest_within : (table : List Slot) → 0 < length table → oldest table < length table
oldest_within [] h = absurd (omega arith)
oldest_within (s ∷ ss) h = let least = least_exists s ss in oldest_of s ss least.0 least.1 least.2

-- ---- where a client waits

-- a question that is joined takes the client
abbrev pub TakesAt : Question → List Slot → Place → Type 0
TakesAt question table (Joins slot) = takes question (slot_at table slot) ≡ true
TakesAt question table (Fills slot) = Unit {0}
TakesAt question table (Replaces slot) = Unit {0}

takes_of : (question : Question) (table : List Slot) (joins free : Option ℕ) → position (takes question) table ≡ joins → TakesAt question table (place_of joins free (oldest table))
takes_of question table (Some slot) free joins = (found (takes question) table slot joins).1
takes_of question table None (Some slot) joins = tt
takes_of question table None None joins = tt

pub takes_at : (question : Question) (table : List Slot) (place : Place) → place ≡ place_for question table → TakesAt question table place
takes_at question table place same = subst (TakesAt question table) (sym same) (takes_of question table (position (takes question) table) (position (λ slot. is_none slot) table) refl)
