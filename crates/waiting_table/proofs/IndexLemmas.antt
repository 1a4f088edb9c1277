-- The index beside the slots.
use Rattle.std.proofs.Common.{◌≡◌, ◌∙◌, ℕ, ◌<◌, ◌≤◌, ⊎_elim, Bool, true, false, cond, List, length, get_or, set, replicate, refl, ap, sym, subst, arith, Option, Some, None}
use Rattle.std.specs.Prelude.{is_none, is_some, nat_lt, not}
use Rattle.std.specs.List.{position, position_or_len}
use Rattle.std.proofs.lemmas.Bool.{and_parts, cases_eq, false_from_ne_true, lt-leb, le-leb, ltb-false, le-ltb, lt-ltb}
use Rattle.std.proofs.lemmas.Bool.Decides.{nat_tests}
use Rattle.std.proofs.lemmas.List.{get_or-replicate, get_or-set_same, get_or-set_other, length-set}
use Rattle.std.proofs.lemmas.List.Folds.{list_all_at}
use Rattle.std.proofs.lemmas.List.Sums.{fails_before_first, position_or_len_is}
use Rattle.dnswire.specs.declared.question.Question.{Question}
use Rattle.waiting_table.specs.declared.client.Client.{Client}
use Rattle.waiting_table.specs.declared.index.Index.{Index}
use Rattle.waiting_table.specs.Waiting.{Slot, Waiting, same_asked, slot_at, takes, with_client}
use Rattle.waiting_table.specs.Steps.{is_oldest, is_quiet, oldest, since_of}
use Rattle.waiting_table.specs.Index.{IsFirstFree, IsIndexOf, IsLeast, Rests, Shows, index_of, mark_of}
use Rattle.waiting_table.proofs.SlotLemmas.{parts_of_same, passes_all, set_slot}

-- ---- a slot is set

module _ (index : Index) (table : List Slot) (is : IsIndexOf index table) where
  -- what the index shows of a slot that is set is set too
  pub index_set : (k : ℕ) (slot : Slot) (taken : Bool) (mark since until : ℕ) → k < 256 → Shows taken mark since until slot → IsIndexOf (index_of (set index.taken k taken) (set index.marks k mark) (set index.since k since) (set index.until k until)) (set table k slot)
  index_set k slot taken mark since until within shows = record {
    all = length-set table k slot ∙ is.all;
    taken_all = length-set index.taken k taken ∙ is.taken_all;
    marks_all = length-set index.marks k mark ∙ is.marks_all;
    since_all = length-set index.since k since ∙ is.since_all;
    until_all = length-set index.until k until ∙ is.until_all;
    each = λ j h. ⊎_elim (λ e. same j e) (λ e. other j h e) (cases_eq j k);
  }
    where
      Here : ℕ → Type 0
      Here j = Shows (get_or (set index.taken k taken) j false) (get_or (set index.marks k mark) j 0) (get_or (set index.since k since) j 0) (get_or (set index.until k until) j 0) (slot_at (set table k slot) j)

      same : (j : ℕ) → j ≡ k → Here j
      same j e = subst Here (sym e) (
          rw (get_or-set_same index.taken k taken false (omega (arith, is.taken_all)), get_or-set_same index.marks k mark 0 (omega (arith, is.marks_all)), get_or-set_same index.since k since 0 (omega (arith, is.since_all)), get_or-set_same index.until k until 0 (omega (arith, is.until_all)), get_or-set_same table k slot None (omega (arith, is.all))) shows
          )

      other : (j : ℕ) → j < 256 → (j ≡ k → ⊥) → Here j
      other j h e = rw (get_or-set_other index.taken k j taken false e, get_or-set_other index.marks k j mark 0 e, get_or-set_other index.since k j since 0 e, get_or-set_other index.until k j until 0 e, get_or-set_other table k j slot None e) (is.each j h)

  -- the index stays, where it shows the slot
  pub index_stays : (k : ℕ) (slot : Slot) → Shows (get_or index.taken k false) (get_or index.marks k 0) (get_or index.since k 0) (get_or index.until k 0) slot → IsIndexOf index (set table k slot)
  index_stays k slot shows = record {
    all = length-set table k slot ∙ is.all;
    taken_all = is.taken_all;
    marks_all = is.marks_all;
    since_all = is.since_all;
    until_all = is.until_all;
    each = λ j h. ⊎_elim
        (λ e. subst (λ (n : ℕ). Shows (get_or index.taken n false) (get_or index.marks n 0) (get_or index.since n 0) (get_or index.until n 0) (slot_at (set table k slot) j)) (sym e.0)
        (subst (λ (s : Slot). Shows (get_or index.taken k false) (get_or index.marks k 0) (get_or index.since k 0) (get_or index.until k 0) s) (sym e.1) shows))
        (λ e. subst (λ (s : Slot). Shows (get_or index.taken j false) (get_or index.marks j 0) (get_or index.since j 0) (get_or index.until j 0) s) (sym e) (is.each j h))
        (set_slot table k slot j);
  }

-- a client that joins changes nothing that the index shows
pub shows_joined : (client : Client) (taken : Bool) (mark since until : ℕ) (slot : Slot) → Shows taken mark since until slot → Shows taken mark since until (with_client client slot)
shows_joined client taken mark since until None shows = shows
shows_joined client taken mark since until (Some w) shows = shows

-- no slot is taken
pub index_new : (table : List Slot) → length table ≡ 256 → ((k : ℕ) → k < 256 → slot_at table k ≡ None) → IsIndexOf (index_of (replicate 256 false) (replicate 256 0) (replicate 256 0) (replicate 256 0)) table
index_new table size free = record {
  all = size;
  taken_all = refl;
  marks_all = refl;
  since_all = refl;
  until_all = refl;
  each = λ k h. subst (λ (s : Slot). Shows (get_or (replicate 256 false) k false) (get_or (replicate 256 0) k 0) (get_or (replicate 256 0) k 0) (get_or (replicate 256 0) k 0) s) (sym (free k h)) (get_or-replicate 256 k false false h, tt);
}

-- ---- the first slot that passes a test

pub first_is : (test : Slot → Bool) (table : List Slot) (i : ℕ) → i < length table → ((k : ℕ) → k < i → test (slot_at table k) ≡ false) → test (slot_at table i) ≡ true → position test table ≡ Some i
first_is test table i within before here =
    let first = position_or_len_is test table i None (omega arith) before (λ h. here) in
    rw (first, lt-ltb i (length table) within)

pub none_is : (test : Slot → Bool) (table : List Slot) → ((k : ℕ) → k < length table → test (slot_at table k) ≡ false) → position test table ≡ None
none_is test table none =
    let first = position_or_len_is test table (length table) None (omega arith) (λ k h. none k h) (λ h. absurd (omega arith)) in
    rw (first, le-ltb (length table) (length table) (omega arith))

free_from : (slot : Slot) (taken : Bool) → taken ≡ is_some slot → is_none slot ≡ not taken
free_from None taken h = sym (ap not h)
free_from (Some w) taken h = sym (ap not h)

-- the first free slot
pub first_free_is : (index : Index) (table : List Slot) (found : Option ℕ) → IsIndexOf index table → IsFirstFree index.taken found → found ≡ position (λ slot. is_none slot) table
first_free_is index table (Some slot) is (within, free, before) =
    sym (first_is (λ s. is_none s) table slot (omega (arith, is.all))
    (λ k h. free_from (slot_at table k) (get_or index.taken k false) (is.each k (omega arith)).0 ∙ ap not (before k h))
    (free_from (slot_at table slot) (get_or index.taken slot false) (is.each slot within).0 ∙ ap not free))
first_free_is index table None is all =
    sym (none_is (λ s. is_none s) table
    (λ k h. let within : k < 256 = omega (arith, is.all) in free_from (slot_at table k) (get_or index.taken k false) (is.each k within).0 ∙ ap not (all k within)))

-- ---- equal questions

-- a slot with another mark doesn't take the question
pub other_mark : (question : Question) (slot : Slot) (taken : Bool) (mark since until : ℕ) → Shows taken mark since until slot → (mark ≡ mark_of question.name question.qtype → ⊥) → takes question slot ≡ false
other_mark question None taken mark since until shows other = refl
other_mark question (Some w) taken mark since until shows other =
    false_from_ne_true (takes question (Some w))
    (λ takes_it.
    let parts = parts_of_same w.asker.question question (and_parts (same_asked w.asker.question question) _ takes_it).0 in
    other (shows.1.0 ∙ (λ i. mark_of (parts.name i) (parts.qtype i))))

-- ---- the oldest

shown_since : (slot : Slot) (taken : Bool) (mark since until : ℕ) → Shows taken mark since until slot → is_none slot ≡ false → since_of slot ≡ since
shown_since None taken mark since until shows some = absurd (cc some)
shown_since (Some w) taken mark since until shows some = sym shows.1.1

none_passes : (n m : ℕ) (b : Bool) → nat_lt n m ≡ b → cond b (Some n) None ≡ None → m ≤ n
none_passes n m true is h = absurd (cc h)
none_passes n m false is h = ltb-false n m is

-- where no slot is free, each is taken
pub full_at : (table : List Slot) → position (λ slot. is_none slot) table ≡ None → length table ≡ 256 → (k : ℕ) → k < 256 → is_none (slot_at table k) ≡ false
full_at table full size k h =
    let past = none_passes (position_or_len (λ s. is_none s) table) (length table) (nat_lt (position_or_len (λ s. is_none s) table) (length table)) refl full in
    fails_before_first (λ s. is_none s) table k None (omega arith)

pub oldest_is : (index : Index) (table : List Slot) (found : ℕ) → IsIndexOf index table → IsLeast index.since found → ((k : ℕ) → k < 256 → is_none (slot_at table k) ≡ false) → found ≡ oldest table
oldest_is index table found is least full =
    let at : (k : ℕ) → k < 256 → since_of (slot_at table k) ≡ get_or index.since k 0 = λ k h. shown_since (slot_at table k) _ _ _ _ (is.each k h) (full k h) in
    let found_at = at found least.within in
    sym (position_or_len_is (is_oldest table) table found None (omega (arith, is.all, least.within))
    (λ k h.
    let k_at = at k (omega (arith, least.within)) in
    let first = least.first k h in
    list_all_at (λ other. _) table found None (omega (arith, is.all, least.within)) (lt-leb _ _ (omega arith)))
    (λ h. passes_all (λ other. _) table (λ j i. let j_at = at j (omega (arith, is.all)) in let l = least.least j (omega (arith, is.all)) in le-leb _ _ (omega arith))))

-- ---- what is due

quiet_before : (now until : ℕ) (w : Waiting) → Rests until w → now < until → is_quiet now (Some w) ≡ true
quiet_before now until w rests before = grind (arith, nat_tests)

-- before its moment a tick does nothing to a slot
pub quiet_until : (now : ℕ) (slot : Slot) (taken : Bool) (mark since until : ℕ) → Shows taken mark since until slot → now < until → is_quiet now slot ≡ true
quiet_until now None taken mark since until shows before = refl
quiet_until now (Some w) taken mark since until shows before = quiet_before now until w shows.1.2 before

pub quiet_free : (now : ℕ) (slot : Slot) (taken : Bool) (mark since until : ℕ) → Shows taken mark since until slot → taken ≡ false → is_quiet now slot ≡ true
quiet_free now None taken mark since until shows free = refl
quiet_free now (Some w) taken mark since until shows free = absurd (cc (shows.0, free))
