-- Runs of labels whose sizes are kept.
use Rattle.std.proofs.Common.{◌≡◌, ℕ, ◌+◌, ◌-◌, ◌<◌, ◌≤◌, List, [], ◌∷◌, ◌++◌, length, drop, set, get_or, replicate, refl, sym, ◌∙◌, ap, subst, arith, length-append, append_assoc}
use Rattle.std.proofs.lemmas.List.{length-drop, get_or-set_same, get_or-set_other}
use native.Mathlib.Decide.{ℕ_discrete}
use Rattle.dname.specs.Name.{Label, wire_of}
use Rattle.dname.specs.Read.{written}
use Rattle.dnswire.specs.MessageName.{Reads}
use Rattle.dnswire.specs.Runs.{AreRunSizes, HasEnd, Passed, Stand}
use Rattle.dnswire.proofs.RunLemmas.{passed_none, passed_label, passed_over_limit, reads_starts, some_octets, zero_at}
use Rattle.dnswire.proofs.ExpansionLemmas.{stand_none, stand_label}

-- ---- labels after labels

passed_both : (message : List ℕ) (at mid here : ℕ) → Passed message at mid → Passed message mid here → Passed message at here
passed_both message at mid here a b = record {
  order = omega (arith, a.order, b.order);
  goes = λ start end labels reads.
      let more = b.goes start end labels reads in
      let all = a.goes start end more.0 more.1 in
      (all.0, all.1, omega (arith, more.2, all.2, a.order, b.order));
  back = λ start end all reads.
      let more = a.back start end all reads in
      let rest = b.back start end more.0 more.1 in
      (rest.0, rest.1, omega (arith, more.2, rest.2, a.order, b.order));
}

written-append : (front rest : List Label) → written (front ++ rest) ≡ written front ++ written rest
written-append [] rest = refl
written-append (label ∷ front) rest = ap (λ o. length label ∷ o) (ap (λ o. label ++ o) (written-append front rest) ∙ sym (append_assoc label (written front) (written rest)))

stand_both : (message : List ℕ) (at mid here : ℕ) (front rest : List Label) → Stand message at front mid → Stand message mid rest here → Stand message at (front ++ rest) here
stand_both message at mid here front rest a b = record {
  octets = a.octets ∙ ap (λ o. written front ++ o) b.octets ∙ sym (append_assoc (written front) (written rest) (drop here message)) ∙ ap (λ o. o ++ drop here message) (sym (written-append front rest));
  size = omega (arith, a.size, b.size, ap length (written-append front rest), length-append (written front) (written rest));
  goes = λ start end more reads.
      subst (λ all. Reads message start at all end) (sym (append_assoc front rest more)) (a.goes start end (rest ++ more) (b.goes start end more reads));
  back = λ start end all reads.
      let x = a.back start end all reads in
      let y = b.back start end x.0 x.2 in
      (y.0, x.1 ∙ ap (λ more. front ++ more) y.1 ∙ sym (append_assoc front rest y.0), y.2);
}

-- ---- where labels end

pub ends_here : (message : List ℕ) (at octet : ℕ) (rest : List ℕ) → drop at message ≡ octet ∷ rest → (1 ≤ octet → octet ≤ 63 → ⊥) → HasEnd message at at
ends_here message at octet rest begins none = record {
  end = record {
    passed = passed_none message at;
    within = omega (arith, ap length begins, length-drop at message);
    no_label = λ label b.
        let head : length label ≡ octet = cc in
        none (omega (arith, head, b.size.0)) (omega (arith, head, b.size.1));
  };
  labels = ([], stand_none message at);
}

pub ends_on : (message : List ℕ) (at size octet : ℕ) (rest : List ℕ) (last : ℕ) → drop at message ≡ octet ∷ rest → size ≡ octet → 1 ≤ size → size ≤ 63 → HasEnd message (at + (1 + size)) last → HasEnd message at last
ends_on message at size octet rest last begins is some short h =
    let next = at + (1 + size) in
    let whole : size ≤ length rest = omega (arith, h.end.passed.order, h.end.within, ap length begins, length-drop at message) in
    let one = stand_label message at at size octet rest [] (stand_none message at) begins is some short whole in
    let passed = passed_label message at at size octet rest (passed_none message at) begins is some short in
    record {
      end = record { passed = passed_both message at next last passed h.end.passed; within = h.end.within; no_label = h.end.no_label };
      labels = (one.0 ++ h.labels.0, stand_both message at next last one.0 h.labels.0 one.1 h.labels.1);
    }

-- ---- no room

-- whatever is read from the offset on, in any run, has more octets than these
abbrev pub HasNoRoomIn : List ℕ → ℕ → ℕ → Type 0
HasNoRoomIn message at room = (start end : ℕ) (labels : List Label) → Reads message start at labels end → room < length (wire_of labels)

pub no_room_at : (message : List ℕ) (at room : ℕ) → (1 ≤ room → at < length message → ⊥) → HasNoRoomIn message at room
no_room_at message at room none start end labels reads =
    by (ℕ_discrete room 0)
  where
    by : Dec (room ≡ 0) → room < length (wire_of labels)
    by (yes zero_room) = omega (arith, some_octets labels, zero_room)
    by (no some_room) = absurd (none (omega (arith, some_room)) (reads_starts message start at labels end reads))

pub no_room_known : (message : List ℕ) (at size room : ℕ) → HasEnd message at (at + size) → room ≤ size → HasNoRoomIn message at room
no_room_known message at size room h long start end labels reads =
    passed_over_limit message at (at + size) room start end labels h.end.passed (omega (arith, long)) reads

pub no_room_for_label : (message : List ℕ) (at size octet : ℕ) (rest : List ℕ) (room : ℕ) → drop at message ≡ octet ∷ rest → size ≡ octet → 1 ≤ size → size ≤ 63 → room ≤ size → HasNoRoomIn message at room
no_room_for_label message at size octet rest room begins is some short long start end all reads =
    let more = (passed_label message at at size octet rest (passed_none message at) begins is some short).back start end all reads in
    omega (arith, more.2, long)

pub no_room_after_label : (message : List ℕ) (at size octet : ℕ) (rest : List ℕ) (room : ℕ) → drop at message ≡ octet ∷ rest → size ≡ octet → 1 ≤ size → size ≤ 63 → size < room → HasNoRoomIn message (at + (1 + size)) (room - (1 + size)) → HasNoRoomIn message at room
no_room_after_label message at size octet rest room begins is some short fits none start end all reads =
    let more = (passed_label message at at size octet rest (passed_none message at) begins is some short).back start end all reads in
    omega (arith, more.2, fits, none start end more.0 more.1)

-- ---- sizes that are kept

pub kept_size : (message sizes : List ℕ) (at size : ℕ) → AreRunSizes message sizes → size ≡ get_or sizes at 0 → 1 ≤ size → HasEnd message at (at + size)
kept_size message sizes at size are is some = subst (λ s. HasEnd message at (at + s)) (sym is) (are at (omega (arith, is, some)))

pub keep_run : (message sizes : List ℕ) (at size : ℕ) → AreRunSizes message sizes → at < length sizes → HasEnd message at (at + size) → AreRunSizes message (set sizes at size)
keep_run message sizes at size are within has here some = by (ℕ_discrete here at)
  where
    by : Dec (here ≡ at) → HasEnd message here (here + get_or (set sizes at size) here 0)
    by (yes same) = subst (λ n. HasEnd message n (n + get_or (set sizes at size) n 0)) (sym same) (subst (λ s. HasEnd message at (at + s)) (sym (get_or-set_same sizes at size 0 within)) has)
    by (no other) =
        let is : get_or (set sizes at size) here 0 ≡ get_or sizes here 0 = get_or-set_other sizes at here size 0 other in
        subst (λ s. HasEnd message here (here + s)) (sym is) (are here (omega (arith, some, is)))

pub no_runs : (message : List ℕ) (count : ℕ) → AreRunSizes message (replicate count 0)
no_runs message count at some = absurd (omega (arith, some, zero_at count at))
