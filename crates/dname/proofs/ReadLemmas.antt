-- Reading a name from the left, and that octets are read in one way only.
use Rattle.std.proofs.Common.{◌≡◌, ℕ, ◌+◌, ◌≤◌, List, [], ◌∷◌, ◌++◌, length, map, take, drop, refl, sym, ◌∙◌, ap, subst, arith, length-append, append_assoc}
use Rattle.std.specs.List.{All}
use Rattle.std.proofs.lemmas.List.{take_at, drop_at, drop-drop, append-nil, take-append-drop, length-take-le}
use Rattle.std.proofs.lemmas.List.Elements.{All-head, All-tail, All-push}
use Rattle.dname.specs.Name.{Label, HasLabelLength, lowered, wire_of}
use Rattle.dname.specs.Read.{written, IsFaultAt, StopsAt, Spells, HasLabelAt}
use Rattle.dname.specs.declared.name_fault.NameFault.{NameFault}
use Rattle.dname.specs.declared.name_fault.NameFault.TheVariants.{Pointer, LabelTooLong, NameTooLong, Short}

-- so many octets at the front are whole labels that fit a name
pub record HasRead (octets : List ℕ) (before : ℕ) : Type 0 where
  pub labels : List Label
  pub spelled : octets ≡ written labels ++ drop before octets
  pub sizes : All HasLabelLength labels
  pub count : before ≡ length (written labels)
  pub fits : before ≤ 254

pub written-push : (labels : List Label) (label : Label) → written (labels ++ label ∷ []) ≡ written labels ++ (length label ∷ label)
written-push [] label = ap (λ l. length label ∷ l) (append-nil label)
written-push (first ∷ rest) label = ap (λ l. length first ∷ l) (ap (λ l. first ++ l) (written-push rest label) ∙ sym (append_assoc first (written rest) (length label ∷ label)))

pub wire_of-written : (labels : List Label) → wire_of labels ≡ written labels ++ 0 ∷ []
wire_of-written [] = refl
wire_of-written (label ∷ rest) = ap (λ l. length label ∷ l) (ap (λ l. label ++ l) (wire_of-written rest) ∙ sym (append_assoc label (written rest) (0 ∷ [])))

-- one label more
pub read_more : (octets : List ℕ) (before size : ℕ) → HasRead octets before → HasLabelAt before (drop before octets) size → 1 ≤ size → HasRead octets (before + (1 + size))
read_more octets before size read at some =
    let label = take size at.rest in
    let long : length label ≡ size = length-take-le size at.rest at.whole in
    let behind : drop size at.rest ≡ drop (before + (1 + size)) octets =
    ap (drop size) (sym (ap (drop 1) at.first) ∙ drop-drop 1 before octets) ∙ drop-drop size (before + 1) octets ∙ ap (λ n. drop n octets) {x = before + 1 + size} {y = before + (1 + size)} (omega arith) in
    record {
      labels = read.labels ++ label ∷ [];
      spelled = read.spelled
          ∙ ap (λ l. written read.labels ++ l) (at.first ∙ ap (λ l. size ∷ l) (sym (take-append-drop size at.rest)) ∙ ap (λ n. n ∷ (label ++ drop size at.rest)) (sym long) ∙ ap (λ l. length label ∷ (label ++ l)) behind)
          ∙ sym (append_assoc (written read.labels) (length label ∷ label) (drop (before + (1 + size)) octets))
          ∙ ap (λ l. l ++ drop (before + (1 + size)) octets) (sym (written-push read.labels label));
      sizes = All-push HasLabelLength read.labels label read.sizes (subst (λ n. (1 ≤ n) × (n ≤ 63)) (sym long) (some, at.short));
      count = omega (arith, read.count, long, ap length (written-push read.labels label), length-append (written read.labels) (length label ∷ label));
      fits = omega (arith, at.room some);
    }

-- the root's octet ends the name
pub read_end : (octets : List ℕ) (before : ℕ) → HasRead octets before → HasLabelAt before (drop before octets) 0 → (name : List Label) × Spells octets name (before + 1)
read_end octets before read at = (
  map lowered read.labels,
  record {
    labels = read.labels;
    rest = at.rest;
    spelled = read.spelled ∙ ap (λ l. written read.labels ++ l) at.first ∙ sym (append_assoc (written read.labels) (0 ∷ []) at.rest) ∙ ap (λ l. l ++ at.rest) (sym (wire_of-written read.labels));
    sizes = read.sizes;
    size = omega (arith, read.count, ap length (wire_of-written read.labels), length-append (written read.labels) (0 ∷ []));
    fits = omega (arith, at.fits);
    lower = refl;
  },
)

-- ---- one way only

-- what stops a reading: the root's octet, or a fault
data Stop (before : ℕ) : List ℕ → Type 0 where
  at_root : (rest : List ℕ) → Stop before (0 ∷ rest)
  at_fault : (fault : NameFault) (rest : List ℕ) → IsFaultAt fault before rest → Stop before rest

-- a label that fits is no stop
no_fault : (fault : NameFault) (before : ℕ) (label rest : List ℕ) → HasLabelLength label → before + (1 + length label) ≤ 254 → IsFaultAt fault before (length label ∷ (label ++ rest)) → ⊥
no_fault Pointer before label rest size fits at = omega (arith, size.1, at)
no_fault LabelTooLong before label rest size fits at = omega (arith, size.1, at.0)
no_fault NameTooLong before label rest size fits at = omega (arith, at.2)
no_fault Short before label rest size fits at = omega (arith, at.3, length-append label rest)

no_stop : (before : ℕ) (octets label rest : List ℕ) → HasLabelLength label → before + (1 + length label) ≤ 254 → octets ≡ length label ∷ (label ++ rest) → Stop before octets → ⊥
no_stop before _ label rest size fits is (at_root more) = omega (arith, size.0, head)
  where
    head : 0 ≡ length label
    head = cc
no_stop before _ label rest size fits is (at_fault fault octets at) = no_fault fault before label rest size fits (subst (IsFaultAt fault before) is at)

record SamePlace (labels labels' : List Label) (rest rest' : List ℕ) : Type 0 where
  pub labels_same : labels ≡ labels'
  pub rest_same : rest ≡ rest'

one_way : (before : ℕ) (labels labels' : List Label) (rest rest' : List ℕ) → written labels ++ rest ≡ written labels' ++ rest' → All HasLabelLength labels → All HasLabelLength labels' → before + length (written labels) ≤ 254 → before + length (written labels') ≤ 254 → Stop (before + length (written labels)) rest → Stop (before + length (written labels')) rest' → SamePlace labels labels' rest rest'
one_way before [] [] rest rest' same sizes sizes' fits fits' stop stop' = record { labels_same = refl; rest_same = same }
one_way before [] (label ∷ labels) rest rest' same sizes sizes' fits fits' stop stop' =
    absurd (no_stop (before + 0) rest label (written labels ++ rest') (All-head HasLabelLength label labels sizes') (omega (arith, fits', length-append label (written labels)))
    (same ∙ ap (λ l. length label ∷ l) (append_assoc label (written labels) rest')) stop)
one_way before (label ∷ labels) [] rest rest' same sizes sizes' fits fits' stop stop' =
    absurd (no_stop (before + 0) rest' label (written labels ++ rest) (All-head HasLabelLength label labels sizes) (omega (arith, fits, length-append label (written labels)))
    (sym same ∙ ap (λ l. length label ∷ l) (append_assoc label (written labels) rest)) stop')
one_way before (label ∷ labels) (label' ∷ labels') rest rest' same sizes sizes' fits fits' stop stop' =
    let whole : length label ∷ (label ++ (written labels ++ rest)) ≡ length label' ∷ (label' ++ (written labels' ++ rest')) =
    ap (λ l. length label ∷ l) (sym (append_assoc label (written labels) rest)) ∙ same ∙ ap (λ l. length label' ∷ l) (append_assoc label' (written labels') rest') in
    let long : length label ≡ length label' = cc in
    let tails : label ++ (written labels ++ rest) ≡ label' ++ (written labels' ++ rest') = ap (drop 1) whole in
    let labels_same : label ≡ label' = sym (take_at label (written labels ++ rest) (length label) refl) ∙ ap (take (length label)) tails ∙ take_at label' (written labels' ++ rest') (length label) (sym long) in
    let rests : written labels ++ rest ≡ written labels' ++ rest' = sym (drop_at label (written labels ++ rest) (length label) refl) ∙ ap (drop (length label)) tails ∙ drop_at label' (written labels' ++ rest') (length label) (sym long) in
    let count : before + length (written (label ∷ labels)) ≡ before + (1 + length label) + length (written labels) = omega (arith, length-append label (written labels)) in
    let count' : before + length (written (label' ∷ labels')) ≡ before + (1 + length label) + length (written labels') = omega (arith, long, length-append label' (written labels')) in
    let more = one_way (before + (1 + length label)) labels labels' rest rest' rests (All-tail HasLabelLength label labels sizes) (All-tail HasLabelLength label' labels' sizes')
    (omega (arith, count)) (omega (arith, count')) (subst (λ n. Stop n rest) count stop) (subst (λ n. Stop n rest') count' stop') in
    record { labels_same = λ i. labels_same i ∷ more.labels_same i; rest_same = more.rest_same }

-- no fault stands at the root's octet, and one place has one fault
root_is_no_fault : (fault : NameFault) (before : ℕ) (rest : List ℕ) → IsFaultAt fault before (0 ∷ rest) → ⊥
root_is_no_fault Pointer before rest at = omega (arith, at)
root_is_no_fault LabelTooLong before rest at = omega (arith, at.0)
root_is_no_fault NameTooLong before rest at = omega (arith, at.0)
root_is_no_fault Short before rest at = omega (arith, at.0)

one_fault : (fault fault' : NameFault) (before : ℕ) (rest : List ℕ) → IsFaultAt fault before rest → IsFaultAt fault' before rest → fault ≡ fault'
one_fault Pointer Pointer before rest at at' = refl
one_fault LabelTooLong LabelTooLong before rest at at' = refl
one_fault NameTooLong NameTooLong before rest at at' = refl
one_fault Short Short before rest at at' = refl
one_fault Pointer LabelTooLong before (size ∷ rest) at at' = absurd (omega (arith, at, at'.1))
one_fault Pointer NameTooLong before (size ∷ rest) at at' = absurd (omega (arith, at, at'.1))
one_fault Pointer Short before (size ∷ rest) at at' = absurd (omega (arith, at, at'.1))
one_fault LabelTooLong Pointer before (size ∷ rest) at at' = absurd (omega (arith, at', at.1))
one_fault LabelTooLong NameTooLong before (size ∷ rest) at at' = absurd (omega (arith, at.0, at'.1))
one_fault LabelTooLong Short before (size ∷ rest) at at' = absurd (omega (arith, at.0, at'.1))
one_fault NameTooLong Pointer before (size ∷ rest) at at' = absurd (omega (arith, at', at.1))
one_fault NameTooLong LabelTooLong before (size ∷ rest) at at' = absurd (omega (arith, at'.0, at.1))
one_fault NameTooLong Short before (size ∷ rest) at at' = absurd (omega (arith, at.2, at'.2))
one_fault Short Pointer before (size ∷ rest) at at' = absurd (omega (arith, at', at.1))
one_fault Short LabelTooLong before (size ∷ rest) at at' = absurd (omega (arith, at'.0, at.1))
one_fault Short NameTooLong before (size ∷ rest) at at' = absurd (omega (arith, at.2, at'.2))
one_fault Pointer LabelTooLong before [] at at' = absurd at
one_fault Pointer NameTooLong before [] at at' = absurd at
one_fault Pointer Short before [] at at' = absurd at
one_fault LabelTooLong Pointer before [] at at' = absurd at
one_fault LabelTooLong NameTooLong before [] at at' = absurd at
one_fault LabelTooLong Short before [] at at' = absurd at
one_fault NameTooLong Pointer before [] at at' = absurd at
one_fault NameTooLong LabelTooLong before [] at at' = absurd at
one_fault NameTooLong Short before [] at at' = absurd at
one_fault Short Pointer before [] at at' = absurd at'
one_fault Short LabelTooLong before [] at at' = absurd at'
one_fault Short NameTooLong before [] at at' = absurd at'

-- what spells a name does it by labels and the root's octet
spelled_at_root : (octets : List ℕ) (name : List Label) (taken : ℕ) (s : Spells octets name taken) → octets ≡ written s.labels ++ (0 ∷ s.rest)
spelled_at_root octets name taken s = s.spelled ∙ ap (λ l. l ++ s.rest) (wire_of-written s.labels) ∙ append_assoc (written s.labels) (0 ∷ []) s.rest

before_root : (octets : List ℕ) (name : List Label) (taken : ℕ) (s : Spells octets name taken) → length (written s.labels) ≤ 254
before_root octets name taken s = omega (arith, s.fits, s.size, ap length (wire_of-written s.labels), length-append (written s.labels) (0 ∷ []))

pub one_name : (octets : List ℕ) (name name' : List Label) (taken taken' : ℕ) → Spells octets name taken → Spells octets name' taken' → (name ≡ name') × (taken ≡ taken')
one_name octets name name' taken taken' s s' =
    let place = one_way 0 s.labels s'.labels (0 ∷ s.rest) (0 ∷ s'.rest) (sym (spelled_at_root octets name taken s) ∙ spelled_at_root octets name' taken' s') s.sizes s'.sizes
    (omega (arith, before_root octets name taken s)) (omega (arith, before_root octets name' taken' s')) (at_root s.rest) (at_root s'.rest) in
    (s.lower ∙ ap (map lowered) place.labels_same ∙ sym s'.lower, s.size ∙ ap (λ l. length (wire_of l)) place.labels_same ∙ sym s'.size)

from_zero : (n : ℕ) → 0 + n ≡ n
from_zero n = omega arith

stop_of : (octets : List ℕ) (fault : NameFault) (s : StopsAt octets fault) → Stop (0 + length (written s.labels)) s.rest
stop_of octets fault s = at_fault fault s.rest (subst (λ n. IsFaultAt fault n s.rest) (sym (from_zero (length (written s.labels)))) s.faulty)

pub name_or_fault : (octets : List ℕ) (name : List Label) (taken : ℕ) (fault : NameFault) → Spells octets name taken → StopsAt octets fault → ⊥
name_or_fault octets name taken fault s s' =
    let place = one_way 0 s.labels s'.labels (0 ∷ s.rest) s'.rest (sym (spelled_at_root octets name taken s) ∙ s'.spelled) s.sizes s'.sizes
    (omega (arith, before_root octets name taken s)) (omega (arith, s'.fits)) (at_root s.rest) (stop_of octets fault s') in
    root_is_no_fault fault (length (written s'.labels)) s.rest (subst (IsFaultAt fault (length (written s'.labels))) (sym place.rest_same) s'.faulty)

pub one_stop : (octets : List ℕ) (fault fault' : NameFault) → StopsAt octets fault → StopsAt octets fault' → fault ≡ fault'
one_stop octets fault fault' s s' =
    let place = one_way 0 s.labels s'.labels s.rest s'.rest (sym s.spelled ∙ s'.spelled) s.sizes s'.sizes
    (omega (arith, s.fits)) (omega (arith, s'.fits)) (stop_of octets fault s) (stop_of octets fault' s') in
    one_fault fault fault' (length (written s.labels)) s.rest s.faulty
    (subst (λ l. IsFaultAt fault' (length (written l)) s.rest) (sym place.labels_same) (subst (IsFaultAt fault' (length (written s'.labels))) (sym place.rest_same) s'.faulty))
