-- How a name ends, and what is above it.
use Rattle.std.proofs.Common.{◌≡◌, ◌∙◌, ℕ, zero, suc, ◌+◌, ◌-◌, ◌*◌, ◌%◌, ◌<◌, ◌≤◌, Bool, true, false, cond, List, [], ◌∷◌, ◌++◌, length, get_or, set, All, refl, sym, ap, subst, arith, length-append, append_assoc}
use Rattle.std.specs.Prelude.{nat_lt, replicate}
use Rattle.std.proofs.Math.Seq.{get_or-append_right}
use Rattle.std.proofs.lemmas.Bool.{false_from_ne_true, false≢true}
use Rattle.std.proofs.lemmas.Bool.Decides.{nat_tests}
use Rattle.std.proofs.lemmas.List.{get_or-replicate, get_or-set_same, length-replicate, length-set}
use Rattle.std.proofs.lemmas.List.Elements.{All-head, All-nil, All-push, All-weaker}
use Rattle.dname.specs.Name.{IsLabel, IsName, Label, wire_of}
use Rattle.dname.specs.Tests.{is_under}
use Rattle.dname.proofs.UnderLemmas.{under_decides}
use Rattle.dname.proofs.WireLemmas.{length-wire_of}
use Rattle.forwarding.specs.Ends.{AreMarksOf, MARKS, end_mark, ends_alike, marked}

-- ---- how a name ends

-- the wire form of a name that is under another ends in the other's
wire_under : (front top : List Label) → (before : List ℕ) × (wire_of (front ++ top) ≡ before ++ wire_of top)
wire_under [] top = ([], refl)
wire_under (label ∷ front) top =
    let rest = wire_under front top in
    (length label ∷ (label ++ rest.0), ap (λ (w : List ℕ). length label ∷ (label ++ w)) rest.1 ∙ ap (λ (w : List ℕ). length label ∷ w) (sym (append_assoc label rest.0 (wire_of top))))

octet_same : (before wire : List ℕ) (k : ℕ) → k ≤ length wire → get_or (before ++ wire) (length (before ++ wire) - k) 0 ≡ get_or wire (length wire - k) 0
octet_same before wire k within =
    get_or-append_right before wire (length (before ++ wire) - k) 0 (omega (arith, length-append before wire))
    ∙ ap (λ (n : ℕ). get_or wire n 0) (omega (arith, length-append before wire))

abbrev mark_by : Bool → ℕ → ℕ → ℕ
mark_by short one other = cond short 0 ((one * 31 + other) % MARKS)

not_short : (n : ℕ) → 3 ≤ n → nat_lt n 3 ≡ false
not_short n long = grind (arith, nat_tests)

same_end : (before wire : List ℕ) → 3 ≤ length wire → end_mark (before ++ wire) ≡ end_mark wire
same_end before wire long =
    let longer : 3 ≤ length (before ++ wire) = omega (arith, length-append before wire) in
    let short : nat_lt (length (before ++ wire)) 3 ≡ nat_lt (length wire) 3 = not_short (length (before ++ wire)) longer ∙ sym (not_short (length wire) long) in
    (λ i. mark_by (short i) (octet_same before wire 3 long i) (octet_same before wire 2 (omega arith) i))

long_wire : (label : Label) (rest : List Label) → IsName (label ∷ rest) → 3 ≤ length (wire_of (label ∷ rest))
long_wire label rest is =
    omega (arith, (All-head IsLabel label rest is.each).size.0, length-append label (wire_of rest), length-wire_of rest)

under_end : (name : List Label) (label : Label) (rest : List Label) → IsName (label ∷ rest) → is_under name (label ∷ rest) ≡ true → end_mark (wire_of name) ≡ end_mark (wire_of (label ∷ rest))
under_end name label rest is under =
    let above = (under_decides name (label ∷ rest)).0 under in
    let wire = wire_under above.0 (label ∷ rest) in
    ap (λ (n : List Label). end_mark (wire_of n)) above.1 ∙ ap end_mark wire.1 ∙ same_end wire.0 (wire_of (label ∷ rest)) (long_wire label rest is)

mark_within : (short : Bool) (one other : ℕ) → mark_by short one other < 256
mark_within true one other = omega arith
mark_within false one other = omega arith

pub mark_is_small : (wire : List ℕ) → end_mark wire < 256
mark_is_small wire = mark_within (nat_lt (length wire) 3) (get_or wire (length wire - 3) 0) (get_or wire (length wire - 2) 0)

pub mark_of_few : (wire : List ℕ) → length wire < 3 → 0 ≡ end_mark wire
mark_of_few wire few =
    let short : nat_lt (length wire) 3 ≡ true = grind (arith, nat_tests) in
    sym (ap (λ (b : Bool). mark_by b (get_or wire (length wire - 3) 0) (get_or wire (length wire - 2) 0)) short)

pub mark_of_more : (wire : List ℕ) → 3 ≤ length wire → (get_or wire (length wire - 3) 0 * 31 + get_or wire (length wire - 2) 0) % 256 ≡ end_mark wire
mark_of_more wire long = sym (ap (λ (b : Bool). mark_by b (get_or wire (length wire - 3) 0) (get_or wire (length wire - 2) 0)) (not_short (length wire) long))

-- ---- the marks

pub marked_root : (marks : List Bool) (name : List Label) → length name ≡ 0 → replicate MARKS true ≡ marked marks name
marked_root marks [] none = refl
marked_root marks (label ∷ rest) none = absurd (omega (arith, none))

pub marked_other : (marks : List Bool) (name : List Label) → (length name ≡ 0 → ⊥) → set marks (end_mark (wire_of name)) true ≡ marked marks name
marked_other marks [] some = absurd (some refl)
marked_other marks (label ∷ rest) some = refl

set_true : (marks : List Bool) (i j : ℕ) → get_or marks j false ≡ true → get_or (set marks i true) j false ≡ true
set_true [] i j is = is
set_true (b ∷ bs) zero zero is = refl
set_true (b ∷ bs) zero (suc j) is = is
set_true (b ∷ bs) (suc i) zero is = is
set_true (b ∷ bs) (suc i) (suc j) is = set_true bs i j is

marked_more : (marks : List Bool) (top : List Label) (name : List Label) → ends_alike marks name ≡ true → ends_alike (marked marks top) name ≡ true
marked_more marks [] name is = get_or-replicate MARKS (end_mark (wire_of name)) true false (mark_is_small (wire_of name))
marked_more marks (label ∷ rest) name is = set_true marks (end_mark (wire_of (label ∷ rest))) (end_mark (wire_of name)) is

marked_below : (marks : List Bool) (top : List Label) → length marks ≡ MARKS → IsName top → (name : List Label) → is_under name top ≡ true → ends_alike (marked marks top) name ≡ true
marked_below marks [] size is name under = get_or-replicate MARKS (end_mark (wire_of name)) true false (mark_is_small (wire_of name))
marked_below marks (label ∷ rest) size is name under =
    let mark = end_mark (wire_of (label ∷ rest)) in
    let within : mark < length marks = omega (arith, size, mark_is_small (wire_of (label ∷ rest))) in
    ap (λ (n : ℕ). get_or (set marks mark true) n false) (under_end name label rest is under) ∙ get_or-set_same marks mark true false within

marked_size : (marks : List Bool) (top : List Label) → length marks ≡ MARKS → length (marked marks top) ≡ MARKS
marked_size marks [] size = length-replicate MARKS true
marked_size marks (label ∷ rest) size = length-set marks (end_mark (wire_of (label ∷ rest))) true ∙ size

-- ---- the marks of names

pub marks_of_none : (marks : List Bool) → marks ≡ replicate MARKS false → AreMarksOf marks []
marks_of_none marks is = record { size = ap length is ∙ length-replicate MARKS false; below = All-nil _ }

-- of the same names, though one more is marked
pub marks_wider : (marks marks' : List Bool) (names : List (List Label)) (top : List Label) → marks' ≡ marked marks top → AreMarksOf marks names → AreMarksOf marks' names
marks_wider marks marks' names top is old = record {
  size = ap length is ∙ marked_size marks top old.size;
  below = subst (λ (m : List Bool). All (λ t. (name : List Label) → is_under name t ≡ true → ends_alike m name ≡ true) names) (sym is)
      (All-weaker (λ t. (name : List Label) → is_under name t ≡ true → ends_alike marks name ≡ true) (λ t. (name : List Label) → is_under name t ≡ true → ends_alike (marked marks top) name ≡ true)
      (λ t below name under. marked_more marks top name (below name under)) names old.below);
}

-- of one name more
pub marks_push : (marks marks' : List Bool) (names : List (List Label)) (top : List Label) → IsName top → marks' ≡ marked marks top → AreMarksOf marks names → AreMarksOf marks' (names ++ top ∷ [])
marks_push marks marks' names top name is old =
    let wider = marks_wider marks marks' names top is old in record {
      size = wider.size;
      below = All-push (λ t. (name : List Label) → is_under name t ≡ true → ends_alike marks' name ≡ true) names top wider.below
          (subst (λ (m : List Bool). (name : List Label) → is_under name top ≡ true → ends_alike m name ≡ true) (sym is) (marked_below marks top old.size name));
    }

-- a name that ends otherwise is below none
pub none_above : (marks : List Bool) (names : List (List Label)) (name : List Label) (b : Bool) → AreMarksOf marks names → b ≡ ends_alike marks name → b ≡ false
    → (k : ℕ) → k < length names → is_under name (get_or names k []) ≡ false
none_above marks names name b are test is k within =
    false_from_ne_true (is_under name (get_or names k [])) (λ under. false≢true (sym is ∙ test ∙ are.below k [] within name under))
