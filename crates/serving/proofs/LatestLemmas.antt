-- The table by what its slots took last, slot by slot.
use Rattle.std.proofs.Common.{◌≡◌, ◌∙◌, ℕ, zero, suc, ◌+◌, ◌<◌, Bool, true, false, not, cond, List, [], ◌∷◌, length, get_or, set, replicate, Some, None, refl, sym, ap, subst, arith}
use Rattle.std.specs.Prelude.{is_none, ◌&&◌, ◌==◌, ◌*◌, ◌/◌, ◌%◌, slice_get, Option, option_and_then}
use Rattle.std.specs.Option.{option_map_or}
use Rattle.std.specs.List.{position_or_len, position, All}
use Rattle.std.proofs.lemmas.Bool.{not-true}
use Rattle.std.proofs.lemmas.List.Elements.{All-tail}
use Rattle.std.proofs.lemmas.List.Quantifiers.{position-Some}
use Rattle.dname.specs.Name.{Label}
use Rattle.dnswire.specs.declared.question.Question.{Question}
use Rattle.serving.specs.declared.action.Action.TheVariants.{Send, ServFail}
use Rattle.serving.specs.declared.latest.Latest.{Latest}
use Rattle.serving.specs.Pending.{Entry, Slot, asks, entry_for, entry_in, entry_of, freed, is_late, least_free, sent_from, slot_at, table_at, turn_at, with_entry, without_entry}
use Rattle.serving.specs.Latest.{AreKept, slot_of, slots_of, taken_slot}

-- later many slots later marks
pub length-slots_of : (marks : List Bool) (sent : List ℕ) (latest : List Latest) → length sent ≡ length marks → length latest ≡ length marks → length (slots_of marks sent latest) ≡ length marks
length-slots_of [] sent latest e f = refl
length-slots_of (t ∷ ts) [] latest e f = absurd (omega arith)
length-slots_of (t ∷ ts) (m ∷ ms) [] e f = absurd (omega arith)
length-slots_of (t ∷ ts) (m ∷ ms) (l ∷ ls) e f = ap suc (length-slots_of ts ms ls (omega arith) (omega arith))

-- the slot at a place
pub get-slots_of : (marks : List Bool) (sent : List ℕ) (latest : List Latest) (i : ℕ) (d : Latest) → i < length marks → length sent ≡ length marks → length latest ≡ length marks → slice_get (slots_of marks sent latest) i ≡ Some (slot_of (get_or marks i false) (get_or sent i 0) (get_or latest i d))
get-slots_of [] sent latest i d h e f = absurd (omega arith)
get-slots_of (t ∷ ts) [] latest i d h e f = absurd (omega arith)
get-slots_of (t ∷ ts) (m ∷ ms) [] i d h e f = absurd (omega arith)
get-slots_of (t ∷ ts) (m ∷ ms) (l ∷ ls) zero d h e f = refl
get-slots_of (t ∷ ts) (m ∷ ms) (l ∷ ls) (suc i) d h e f = get-slots_of ts ms ls i d (omega arith) (omega arith) (omega arith)

-- a slot is taken anew
pub set-slots_of : (marks : List Bool) (sent : List ℕ) (latest : List Latest) (i : ℕ) (t : Bool) (m : ℕ) (l : Latest) → slots_of (set marks i t) (set sent i m) (set latest i l) ≡ set (slots_of marks sent latest) i (slot_of t m l)
set-slots_of [] sent latest i t' m' l' = refl
set-slots_of (t ∷ ts) [] latest zero t' m' l' = refl
set-slots_of (t ∷ ts) [] latest (suc i) t' m' l' = refl
set-slots_of (t ∷ ts) (m ∷ ms) [] zero t' m' l' = refl
set-slots_of (t ∷ ts) (m ∷ ms) [] (suc i) t' m' l' = refl
set-slots_of (t ∷ ts) (m ∷ ms) (l ∷ ls) zero t' m' l' = refl
set-slots_of (t ∷ ts) (m ∷ ms) (l ∷ ls) (suc i) t' m' l' = ap (λ (s : List Slot). slot_of t m l ∷ s) (set-slots_of ts ms ls i t' m' l')

-- a slot is freed
pub free-slots_of : (marks : List Bool) (sent : List ℕ) (latest : List Latest) (i : ℕ) (d : Latest) → slots_of (set marks i false) sent latest ≡ set (slots_of marks sent latest) i (freed (taken_slot (get_or sent i 0) (get_or latest i d)))
free-slots_of [] sent latest i d = refl
free-slots_of (t ∷ ts) [] latest zero d = refl
free-slots_of (t ∷ ts) [] latest (suc i) d = refl
free-slots_of (t ∷ ts) (m ∷ ms) [] zero d = refl
free-slots_of (t ∷ ts) (m ∷ ms) [] (suc i) d = refl
free-slots_of (t ∷ ts) (m ∷ ms) (l ∷ ls) zero d = refl
free-slots_of (t ∷ ts) (m ∷ ms) (l ∷ ls) (suc i) d = ap (λ (s : List Slot). slot_of t m l ∷ s) (free-slots_of ts ms ls i d)

-- the slot after its entry's age was looked at
kept-slot : (now : ℕ) (taken after : Bool) (sent : ℕ) (latest : Latest) → after ≡ (taken && not (is_late now sent)) → slot_of after sent latest ≡ slot_at now (slot_of taken sent latest)
kept-slot now false after sent latest e = subst (λ (t : Bool). slot_of t sent latest ≡ freed (taken_slot sent latest)) (sym e) refl
kept-slot now true after sent latest e = kept-by (is_late now sent) after e
  where
    kept-by : (late after : Bool) → after ≡ not late → slot_of after sent latest ≡ cond late (freed (taken_slot sent latest)) (taken_slot sent latest)
    kept-by true after e = subst (λ (t : Bool). slot_of t sent latest ≡ freed (taken_slot sent latest)) (sym e) refl
    kept-by false after e = subst (λ (t : Bool). slot_of t sent latest ≡ taken_slot sent latest) (sym e) refl

-- the table without late entries
pub kept-slots_of : (now : ℕ) (marks : List Bool) (sent : List ℕ) (after : List Bool) (latest : List Latest) → length after ≡ length marks → AreKept now marks sent after → slots_of after sent latest ≡ table_at now (slots_of marks sent latest)
kept-slots_of now [] sent [] latest e kept = refl
kept-slots_of now [] sent (a ∷ later) latest e kept = absurd (omega arith)
kept-slots_of now (t ∷ ts) sent [] latest e kept = absurd (omega arith)
kept-slots_of now (t ∷ ts) [] (a ∷ later) latest e kept = refl
kept-slots_of now (t ∷ ts) (m ∷ ms) (a ∷ later) [] e kept = refl
kept-slots_of now (t ∷ ts) (m ∷ ms) (a ∷ later) (l ∷ ls) e kept =
    let here = kept-slot now t a m l (kept 0 (omega arith)) in
    let rest = kept-slots_of now ts ms later ls (omega arith) (λ k h. kept (suc k) (omega arith)) in
    (λ i. here i ∷ rest i)

-- a slot is free where it isn't taken
free-slot : (taken : Bool) (sent : ℕ) (latest : Latest) → is_none (slot_of taken sent latest).entry ≡ not taken
free-slot true sent latest = refl
free-slot false sent latest = refl

first-slots_of : (marks : List Bool) (sent : List ℕ) (latest : List Latest) → length sent ≡ length marks → length latest ≡ length marks → position_or_len (λ (s : Slot). is_none s.entry) (slots_of marks sent latest) ≡ position_or_len not marks
first-slots_of [] sent latest e f = refl
first-slots_of (t ∷ ts) [] latest e f = absurd (omega arith)
first-slots_of (t ∷ ts) (m ∷ ms) [] e f = absurd (omega arith)
first-slots_of (true ∷ ts) (m ∷ ms) (l ∷ ls) e f = ap (λ (n : ℕ). 1 + n) (first-slots_of ts ms ls (omega arith) (omega arith))
first-slots_of (false ∷ ts) (m ∷ ms) (l ∷ ls) e f = refl

pub least_free-slots_of : (marks : List Bool) (sent : List ℕ) (latest : List Latest) → length sent ≡ length marks → length latest ≡ length marks → least_free (slots_of marks sent latest) ≡ position not marks
least_free-slots_of marks sent latest e f =
    rw (first-slots_of marks sent latest e f, length-slots_of marks sent latest e f)

-- all slots are free at turn 0
pub empty-slots_of : (n : ℕ) (latest : List Latest) → length latest ≡ n → All (λ (l : Latest). l.turn ≡ 255) latest → slots_of (replicate n false) (replicate n 0) latest ≡ replicate n (record { turn = 0; entry = None })
empty-slots_of zero latest e turns = refl
empty-slots_of (suc n) [] e turns = absurd (omega arith)
empty-slots_of (suc n) (l ∷ ls) e turns =
    let here : slot_of false 0 l ≡ record { turn = 0; entry = None } = rw (turns 0 l (omega arith)) in
    let rest = empty-slots_of n ls (omega arith) (All-tail (λ (l : Latest). l.turn ≡ 255) l ls turns) in
    (λ i. here i ∷ rest i)

-- a free slot takes an entry, at the turn that it has
pub takes : (marks : List Bool) (sent : List ℕ) (latest : List Latest) (table : List Slot) (i : ℕ) (d renewed : Latest) (client : ℕ) (question : Question) (now : ℕ) → slots_of marks sent latest ≡ table → length sent ≡ length marks → length latest ≡ length marks → least_free table ≡ Some i → renewed.turn ≡ ((get_or latest i d).turn + 1) % 256 → renewed.client ≡ client → renewed.question ≡ question → (renewed.turn ≡ turn_at table i) × (slots_of (set marks i true) (set sent i now) (set latest i renewed) ≡ with_entry table (Some i) (entry_of client question now))
takes marks sent latest table i d renewed client question now seen e f free turn whose what =
    let first : position not marks ≡ Some i = sym (least_free-slots_of marks sent latest e f) ∙ ap least_free seen ∙ free in
    let place = position-Some not marks i false first in
    let unmarked : get_or marks i false ≡ false = not-true (get_or marks i false) place.1 in
    let here : slice_get table i ≡ Some (slot_of false (get_or sent i 0) (get_or latest i d)) =
    ap (λ (t : List Slot). slice_get t i) (sym seen)
    ∙ get-slots_of marks sent latest i d place.0 e f
    ∙ ap (λ (b : Bool). Some (slot_of b (get_or sent i 0) (get_or latest i d))) unmarked in
    let its_turn : turn_at table i ≡ ((get_or latest i d).turn + 1) % 256 =
    ap (λ (s : Option Slot). option_map_or (λ (slot : Slot). slot.turn) s 0) here in
    let same : renewed.turn ≡ turn_at table i = turn ∙ sym its_turn in (
      same,
      set-slots_of marks sent latest i true now renewed
          ∙ (λ k. set (seen k) i (record { turn = same k; entry = Some (record { client = whose k; question = what k; sent = now }) })),
    )

entry_in-slot_of : (taken : Bool) (sent : ℕ) (latest : Latest) (turn : ℕ) (name : List Label) (qtype qclass : ℕ) → entry_in (slot_of taken sent latest) turn name qtype qclass ≡ cond (taken && ((latest.turn == turn) && asks name qtype qclass latest.question)) (Some (entry_of latest.client latest.question sent)) None
entry_in-slot_of true sent latest turn name qtype qclass = refl
entry_in-slot_of false sent latest turn name qtype qclass = refl

-- the entry that an answer fits, by what the slot took last
pub entry_for-slots_of : (marks : List Bool) (sent : List ℕ) (latest : List Latest) (table : List Slot) (i id : ℕ) (d : Latest) (name : List Label) (qtype qclass : ℕ) → slots_of marks sent latest ≡ table → length sent ≡ length marks → length latest ≡ length marks → i < length marks → i ≡ id % 256 → entry_for table id name qtype qclass ≡ cond (get_or marks i false && (((get_or latest i d).turn == (id / 256)) && asks name qtype qclass (get_or latest i d).question)) (Some (entry_of (get_or latest i d).client (get_or latest i d).question (get_or sent i 0))) None
entry_for-slots_of marks sent latest table i id d name qtype qclass seen e f within same =
    let at = λ (slot : Option Slot). option_and_then (λ (s : Slot). entry_in s (id / 256) name qtype qclass) slot in
    ap (λ (t : List Slot). at (slice_get t (id % 256))) (sym seen)
    ∙ ap (λ (n : ℕ). at (slice_get (slots_of marks sent latest) n)) (sym same)
    ∙ ap at (get-slots_of marks sent latest i d within e f)
    ∙ entry_in-slot_of (get_or marks i false) (get_or sent i 0) (get_or latest i d) (id / 256) name qtype qclass

-- the slot is freed when its answer is relayed
pub relays : (marks : List Bool) (sent : List ℕ) (latest : List Latest) (table : List Slot) (i id : ℕ) (d : Latest) (entry : Entry) → slots_of marks sent latest ≡ table → length sent ≡ length marks → length latest ≡ length marks → i < length marks → i ≡ id % 256 → get_or marks i false ≡ true → slots_of (set marks i false) sent latest ≡ without_entry table (id % 256) (Some entry)
relays marks sent latest table i id d entry seen e f within same marked =
    let taken = taken_slot (get_or sent i 0) (get_or latest i d) in
    let here : slice_get table (id % 256) ≡ Some taken =
    ap (λ (t : List Slot). slice_get t (id % 256)) (sym seen)
    ∙ ap (λ (n : ℕ). slice_get (slots_of marks sent latest) n) (sym same)
    ∙ get-slots_of marks sent latest i d within e f
    ∙ ap (λ (b : Bool). Some (slot_of b (get_or sent i 0) (get_or latest i d))) marked in
    free-slots_of marks sent latest i d
    ∙ ap (λ (t : List Slot). set t i (freed taken)) seen
    ∙ ap (λ (n : ℕ). set table n (freed taken)) same
    ∙ sym (ap (λ (slot : Option Slot). option_map_or (λ (s : Slot). set table (id % 256) (freed s)) slot table) here)

-- an answer fits the entry that its slot took last
pub fit : (marks : List Bool) (sent : List ℕ) (latest : List Latest) (table : List Slot) (i id : ℕ) (d : Latest) (name : List Label) (qtype qclass : ℕ) (fits : Bool) → slots_of marks sent latest ≡ table → length sent ≡ length marks → length latest ≡ length marks → i < length marks → i ≡ id % 256 → d ≡ get_or latest i d → get_or marks i false ≡ true → fits ≡ ((d.turn == (id / 256)) && asks name qtype qclass d.question) → entry_for table id name qtype qclass ≡ cond fits (Some (entry_of d.client d.question (get_or sent i 0))) None
fit marks sent latest table i id d name qtype qclass fits seen e f within same value marked test =
    let m = get_or sent i 0 in
    entry_for-slots_of marks sent latest table i id d name qtype qclass seen e f within same
    ∙ ap (λ (l : Latest). cond (get_or marks i false && ((l.turn == (id / 256)) && asks name qtype qclass l.question)) (Some (entry_of l.client l.question m)) None) (sym value)
    ∙ ap (λ (b : Bool). cond (b && ((d.turn == (id / 256)) && asks name qtype qclass d.question)) (Some (entry_of d.client d.question m)) None) marked
    ∙ ap (λ (b : Bool). cond b (Some (entry_of d.client d.question m)) None) (sym test)

none_there : (marks : List Bool) (sent : List ℕ) (latest : List Latest) (i : ℕ) → i < length marks → length sent ≡ length marks → length latest ≡ length marks → get_or marks i false ≡ false → (s : Slot) × (slice_get (slots_of marks sent latest) i ≡ Some s) × (s.entry ≡ None)
none_there [] sent latest i h e f free = absurd (omega arith)
none_there (t ∷ ts) [] latest i h e f free = absurd (omega arith)
none_there (t ∷ ts) (m ∷ ms) [] i h e f free = absurd (omega arith)
none_there (t ∷ ts) (m ∷ ms) (l ∷ ls) zero h e f free = (slot_of t m l, refl, subst (λ (b : Bool). (slot_of b m l).entry ≡ None) (sym free) refl)
none_there (t ∷ ts) (m ∷ ms) (l ∷ ls) (suc i) h e f free = none_there ts ms ls i (omega arith) (omega arith) (omega arith) free

none_in : (slot : Slot) (turn : ℕ) (name : List Label) (qtype qclass : ℕ) → slot.entry ≡ None → entry_in slot turn name qtype qclass ≡ None
none_in slot turn name qtype qclass none =
    ap (option_and_then (λ (entry : Entry). cond ((slot.turn == turn) && asks name qtype qclass entry.question) (Some entry) None)) none

-- no entry waits in a slot that isn't taken
pub none_waits : (marks : List Bool) (sent : List ℕ) (latest : List Latest) (table : List Slot) (i id : ℕ) (name : List Label) (qtype qclass : ℕ) → slots_of marks sent latest ≡ table → length sent ≡ length marks → length latest ≡ length marks → i < length marks → i ≡ id % 256 → get_or marks i false ≡ false → entry_for table id name qtype qclass ≡ None
none_waits marks sent latest table i id name qtype qclass seen e f within same free =
    let at = λ (slot : Option Slot). option_and_then (λ (s : Slot). entry_in s (id / 256) name qtype qclass) slot in
    let there = none_there marks sent latest i within e f free in
    ap (λ (t : List Slot). at (slice_get t (id % 256))) (sym seen)
    ∙ ap (λ (n : ℕ). at (slice_get (slots_of marks sent latest) n)) (sym same)
    ∙ ap at there.1
    ∙ none_in there.0 (id / 256) name qtype qclass there.2

-- what is asked of a table is done of the table at the moment
pub sends : (table kept : List Slot) (slot turn : ℕ) → table ≡ kept → Some slot ≡ least_free table → turn ≡ turn_at table slot → Send (256 * turn + slot) ≡ sent_from kept (least_free kept)
sends table kept slot turn same place its =
    ap (λ (t : ℕ). Send (256 * t + slot)) its
    ∙ ap (sent_from table) place
    ∙ ap (λ (t : List Slot). sent_from t (least_free t)) same

pub fails : (table kept : List Slot) → table ≡ kept → None ≡ least_free table → ServFail ≡ sent_from kept (least_free kept)
fails table kept same place = ap (sent_from table) place ∙ ap (λ (t : List Slot). sent_from t (least_free t)) same

pub fills : (table kept after : List Slot) (found : Option ℕ) (entry : Entry) → table ≡ kept → found ≡ least_free table → after ≡ with_entry table found entry → after ≡ with_entry kept (least_free kept) entry
fills table kept after found entry same place filled =
    filled
    ∙ ap (λ (p : Option ℕ). with_entry table p entry) place
    ∙ ap (λ (t : List Slot). with_entry t (least_free t) entry) same
