-- A wire form gives its labels back, one by one from the left.
use Rattle.std.proofs.Common.{◌≡◌, ◌≢◌, ◌⊎◌, inl, inr, ⊎_elim, ℕ, ◌+◌, ◌-◌, ◌*◌, ◌<◌, ◌≤◌, zero, suc, Bool, List, [], ◌∷◌, ◌++◌, length, map, take, drop, get_or, refl, sym, ◌∙◌, ap, subst, arith, length-append, Fits, w8}
use Rattle.std.specs.Prelude.{nat_eq}
use Rattle.std.specs.Bool.{Decides}
use Rattle.std.specs.Char.{to_ascii_lowercase}
use Rattle.std.specs.List.{All}
use Rattle.std.specs.Cmp.Lexicographic.{pointwise, pointwise_decides, bytes_decides}
use Rattle.std.proofs.lemmas.Bool.{cases_lt}
use Rattle.std.proofs.Math.ListN.{get_or-append, get_or-map}
use Rattle.std.proofs.Math.Seq.{get_or-append_right}
use Rattle.std.proofs.lemmas.List.{take_at, drop_at, map-append, length-map, length-drop, length-take-le, take-append-drop, ext_get_or, get_or-drop, get_or-take}
use Rattle.std.proofs.lemmas.List.Elements.{All-nil, All-head, All-tail, All-map, All-weaker, All-cons, All-same, All-take, All-drop, All-from_get_or}
use Rattle.std.proofs.lemmas.Slice.Eq.{bytes_eq-Decides}
use Rattle.std.proofs.lemmas.Bool.Decides.{nat_tests, same_from_decides}
use Rattle.dname.specs.Name.{Label, HasLabelLength, IsLabel, IsName, lowered, wire_of, labels_within, labels_of, IsWire}

-- a wire form has its root octet, and at least two octets a label
pub length-wire_of : (labels : List Label) → 1 + length labels ≤ length (wire_of labels)
length-wire_of [] = omega arith
length-wire_of (label ∷ rest) = omega (arith, length-append label (wire_of rest), length-wire_of rest)

double_length : (labels : List Label) → All HasLabelLength labels → 1 + 2 * length labels ≤ length (wire_of labels)
double_length [] sizes = omega arith
double_length (label ∷ rest) sizes =
    omega (arith, length-append label (wire_of rest), double_length rest (All-tail HasLabelLength label rest sizes), All-head HasLabelLength label rest sizes)

labels_within-step : (n : ℕ) (label : Label) (octets : List ℕ) → 1 ≤ length label → labels_within (suc n) (length label ∷ (label ++ octets)) ≡ label ∷ labels_within n octets
labels_within-step n [] octets some = absurd (omega arith)
labels_within-step n (octet ∷ label) octets some = rw (take_at (octet ∷ label) octets (suc (length label)) refl, drop_at (octet ∷ label) octets (suc (length label)) refl) refl

labels_within-wire_of : (n : ℕ) (labels : List Label) → All HasLabelLength labels → length labels ≤ n → labels_within n (wire_of labels) ≡ labels
labels_within-wire_of zero [] sizes enough = refl
labels_within-wire_of (suc n) [] sizes enough = refl
labels_within-wire_of zero (label ∷ rest) sizes enough = absurd (omega arith)
labels_within-wire_of (suc n) (label ∷ rest) sizes enough =
    let size = All-head HasLabelLength label rest sizes in
    labels_within-step n label (wire_of rest) size.0
    ∙ ap (λ labels. label ∷ labels) (labels_within-wire_of n rest (All-tail HasLabelLength label rest sizes) (omega arith))

-- a wire form gives its labels back
pub labels_of-wire_of : (labels : List Label) → All HasLabelLength labels → labels_of (wire_of labels) ≡ labels
labels_of-wire_of labels sizes = labels_within-wire_of (length (wire_of labels)) labels sizes (omega (arith, length-wire_of labels))

pub sizes_of : (labels : List Label) → All IsLabel labels → All HasLabelLength labels
sizes_of labels each = λ k d within. (each k d within).size

-- the wire form of a name is one
pub IsWire-wire_of : (labels : List Label) → IsName labels → IsWire (wire_of labels)
IsWire-wire_of labels name =
    let back = labels_of-wire_of labels (sizes_of labels name.each) in
    record { spelled = ap wire_of (sym back); name = subst IsName (sym back) name }

pub few_labels : (labels : List Label) → IsName labels → length labels ≤ 127
few_labels labels name = omega (arith, double_length labels (sizes_of labels name.each), name.fits)

-- what follows a name's first label is a name
pub IsName-rest : (label : Label) (rest : List Label) → IsName (label ∷ rest) → IsName rest
IsName-rest label rest name = record {
  each = All-tail IsLabel label rest name.each;
  fits = omega (arith, length-append label (wire_of rest), name.fits);
}

-- the first label and what follows it, where the wire form isn't the root's
pub record SplitsLabel (labels : List Label) (octets : List ℕ) : Type 0 where
  pub label : Label
  pub rest : List Label
  pub is : labels ≡ label ∷ rest
  pub front : take (get_or octets 0 0) (drop 1 octets) ≡ label
  pub behind : drop (1 + get_or octets 0 0) octets ≡ wire_of rest

splits_wire_of : (labels : List Label) → get_or (wire_of labels) 0 0 ≢ 0 → SplitsLabel labels (wire_of labels)
splits_wire_of [] some = absurd (some refl)
splits_wire_of (label ∷ rest) some = record {
  label = label;
  rest = rest;
  is = refl;
  front = take_at label (wire_of rest) (length label) refl;
  behind = rw (one_more (length label)) (drop_at label (wire_of rest) (length label) refl);
}
  where
    one_more : (n : ℕ) → 1 + n ≡ suc n
    one_more n = omega arith

pub splits_wire : (octets : List ℕ) → IsWire octets → get_or octets 0 0 ≢ 0 → SplitsLabel (labels_of octets) octets
splits_wire octets wire some =
    let P : List ℕ → Type 0 = λ o. get_or o 0 0 ≢ 0 → SplitsLabel (labels_of octets) o in
    subst P (sym wire.spelled) (splits_wire_of (labels_of octets)) some

-- the root's wire form has no label
pub no_labels : (octets : List ℕ) → IsWire octets → get_or octets 0 0 ≡ 0 → labels_of octets ≡ []
no_labels octets wire none = root (labels_of octets) wire.name.each (subst (λ o. get_or o 0 0 ≡ 0) wire.spelled none)
  where
    root : (labels : List Label) → All IsLabel labels → get_or (wire_of labels) 0 0 ≡ 0 → labels ≡ []
    root [] each none = refl
    root (label ∷ rest) each none = absurd (omega (arith, none, (All-head IsLabel label rest each).size.0))

-- the same, told of a wire form's octets
pub record StepsTo (octets label rest : List ℕ) : Type 0 where
  pub wire : IsWire rest
  pub labels : labels_of octets ≡ label ∷ labels_of rest

pub steps_to : (octets label rest : List ℕ) → IsWire octets → get_or octets 0 0 ≢ 0 → label ≡ take (get_or octets 0 0) (drop 1 octets) → rest ≡ drop (1 + get_or octets 0 0) octets → StepsTo octets label rest
steps_to octets label rest wire some front behind =
    let split = splits_wire octets wire some in
    let is_rest = behind ∙ split.behind in
    let name = IsName-rest split.label split.rest (subst IsName split.is wire.name) in
    let back = ap labels_of is_rest ∙ labels_of-wire_of split.rest (sizes_of split.rest name.each) in
    record {
      wire = subst IsWire (sym is_rest) (IsWire-wire_of split.rest name);
      labels = split.is ∙ sym (ap (λ l. l ∷ split.rest) (front ∙ split.front)) ∙ sym (ap (λ ls. label ∷ ls) back);
    }

-- names with one wire form are one
pub same_wire : (name other : List Label) → IsName name → IsName other → wire_of name ≡ wire_of other → name ≡ other
same_wire name other first second same =
    sym (labels_of-wire_of name (sizes_of name first.each)) ∙ ap labels_of same ∙ labels_of-wire_of other (sizes_of other second.each)

-- `==` of two wire forms decides whether the names are equal
pub same_name : (name other : List Label) (r : Bool) → IsName name → IsName other → r ≡ pointwise nat_eq (wire_of name) (wire_of other) → Decides r (name ≡ other)
same_name name other r first second is =
    let decides = bytes_eq-Decides (wire_of name) (wire_of other) in
    (λ h. same_wire name other first second (decides.0 (sym is ∙ h)), λ e. is ∙ decides.1 (ap wire_of e))

pub pointwise_name : (name other : List Label) (r : Bool) → Decides r (name ≡ other) → r ≡ pointwise (pointwise nat_eq) name other
pointwise_name name other r h = same_from_decides r _ h (pointwise_decides bytes_decides name other)

-- a length octet has no capital to lower
size_stays : (n : ℕ) → n ≤ 63 → to_ascii_lowercase n ≡ n
size_stays n few = grind (arith, nat_tests)

-- lowering a wire form lowers its labels
pub lowered-wire_of : (labels : List Label) → All HasLabelLength labels → lowered (wire_of labels) ≡ wire_of (map lowered labels)
lowered-wire_of [] sizes = refl
lowered-wire_of (label ∷ rest) sizes =
    let size = All-head HasLabelLength label rest sizes in
    let more = lowered-wire_of rest (All-tail HasLabelLength label rest sizes) in
    ap (λ n. n ∷ lowered (label ++ wire_of rest)) (size_stays (length label) size.1 ∙ sym (length-map label to_ascii_lowercase))
    ∙ ap (λ octets. length (lowered label) ∷ octets) (map-append to_ascii_lowercase label (wire_of rest) ∙ ap (λ octets. lowered label ++ octets) more)

lower_twice : (n : ℕ) → to_ascii_lowercase (to_ascii_lowercase n) ≡ to_ascii_lowercase n
lower_twice n = grind (arith, nat_tests)

lowered_twice : (label : Label) → lowered (lowered label) ≡ lowered label
lowered_twice [] = refl
lowered_twice (octet ∷ rest) = λ i. lower_twice octet i ∷ lowered_twice rest i

lower_small : (n : ℕ) → n < 256 → to_ascii_lowercase n < 256
lower_small n small = grind (arith, nat_tests)

-- a slice of octets has octets
pub octets_small : (octets : List ℕ) → ((i : ℕ) → Fits w8 (get_or octets i 0)) → All (λ octet. octet < 256) octets
octets_small octets fits = All-from_get_or (λ octet. octet < 256) octets 0 (λ i within. omega (arith, fits i))

-- a label's octets, lowered, are a label
pub IsLabel-lowered : (label : Label) → HasLabelLength label → All (λ octet. octet < 256) label → IsLabel (lowered label)
IsLabel-lowered label size octets = record {
  size = subst (λ n. (1 ≤ n) × (n ≤ 63)) (sym (length-map label to_ascii_lowercase)) size;
  octets = All-map (λ octet. octet < 256) to_ascii_lowercase label (All-weaker (λ octet. octet < 256) (λ octet. to_ascii_lowercase octet < 256) lower_small label octets);
  lower = lowered_twice label;
}

-- a label below a name, where there is room
pub IsName-cons : (label : Label) (rest : List Label) → IsLabel label → IsName rest → 1 + length label + length (wire_of rest) ≤ 255 → IsName (label ∷ rest)
IsName-cons label rest is name room = record {
  each = All-cons IsLabel label rest is name.each;
  fits = omega (arith, length-append label (wire_of rest));
}

-- the octets that a child's name is made of are its wire form
pub child_wire : (label octets : List ℕ) (name : List Label) (n : ℕ) (a b c d : List ℕ) → a ≡ [] → b ≡ a ++ n ∷ [] → n ≡ length label → c ≡ b ++ lowered label → d ≡ c ++ octets → octets ≡ wire_of name → d ≡ wire_of (lowered label ∷ name)
child_wire label octets name n a b c d none size is first second spelled =
    second ∙ ap (λ l. l ++ octets) (first ∙ ap (λ l. l ++ lowered label) (size ∙ ap (λ l. l ++ n ∷ []) none)) ∙ ap (λ l. n ∷ (lowered label ++ l)) spelled
    ∙ ap (λ k. k ∷ (lowered label ++ wire_of name)) (is ∙ sym (length-map label to_ascii_lowercase))

pub record IsMade (octets : List ℕ) (labels : List Label) : Type 0 where
  pub wire : IsWire octets
  pub labels_are : labels_of octets ≡ labels

-- octets that spell a name are its wire form and give it back
pub is_made : (octets : List ℕ) (labels : List Label) → octets ≡ wire_of labels → IsName labels → IsMade octets labels
is_made octets labels spelled name = record {
  wire = subst IsWire (sym spelled) (IsWire-wire_of labels name);
  labels_are = ap labels_of spelled ∙ labels_of-wire_of labels (sizes_of labels name.each);
}

-- the octets of a wire form's labels are octets
labels_small : (labels : List Label) → All (λ octet. octet < 256) (wire_of labels) → All (All (λ octet. octet < 256)) labels
labels_small [] small = All-nil (All (λ octet. octet < 256))
labels_small (label ∷ rest) small =
    let Small : ℕ → Type 0 = λ octet. octet < 256 in
    let behind = All-tail Small (length label) (label ++ wire_of rest) small in
    All-cons (All Small) label rest
    (All-same Small _ _ (sym (take_at label (wire_of rest) (length label) refl)) (All-take Small (length label) (label ++ wire_of rest) behind))
    (labels_small rest (All-same Small _ _ (sym (drop_at label (wire_of rest) (length label) refl)) (All-drop Small (length label) (label ++ wire_of rest) behind)))

lowered_labels : (labels : List Label) → All HasLabelLength labels → All (All (λ octet. octet < 256)) labels → All IsLabel (map lowered labels)
lowered_labels [] sizes small = All-nil IsLabel
lowered_labels (label ∷ rest) sizes small =
    All-cons IsLabel (lowered label) (map lowered rest)
    (IsLabel-lowered label (All-head HasLabelLength label rest sizes) (All-head (All (λ octet. octet < 256)) label rest small))
    (lowered_labels rest (All-tail HasLabelLength label rest sizes) (All-tail (All (λ octet. octet < 256)) label rest small))

-- a wire form, lowered, is that of the lowered labels
pub made_from : (octets items : List ℕ) (labels : List Label) → octets ≡ wire_of labels → All HasLabelLength labels → All (λ octet. octet < 256) octets → length octets ≤ 255 → items ≡ lowered octets → IsMade items (map lowered labels)
made_from octets items labels spelled sizes small fits is =
    let form : items ≡ wire_of (map lowered labels) = is ∙ ap lowered spelled ∙ lowered-wire_of labels sizes in
    is_made items (map lowered labels) form (record {
      each = lowered_labels labels sizes (labels_small labels (subst (All (λ octet. octet < 256)) spelled small));
      fits = omega (arith, ap length form, ap length is, length-map octets to_ascii_lowercase, fits);
    })

-- a wire form of more than an octet isn't the root's
pub not_root : (octets : List ℕ) → IsWire octets → 1 < length (wire_of (labels_of octets)) → get_or octets 0 0 ≢ 0
not_root octets wire long none = absurd (omega (arith, long, ap (λ labels. length (wire_of labels)) (no_labels octets wire none)))

-- from the start up to the end the octets are lowered, and the others as they were
pub record IsLowered (before after : List ℕ) (start end : ℕ) : Type 0 where
  pub size : length after ≡ length before
  pub low : start ≤ end
  pub inside : (k : ℕ) → start ≤ k → k < end → get_or after k 0 ≡ to_ascii_lowercase (get_or before k 0)
  pub outside : (k : ℕ) → (k < start) ⊎ (end ≤ k) → get_or after k 0 ≡ get_or before k 0

-- up to one place, and from there up to another
pub lowered_then : (before between after : List ℕ) (start at end : ℕ) → IsLowered before between start at → IsLowered between after at end → IsLowered before after start end
lowered_then before between after start at end l m = record {
  size = m.size ∙ l.size;
  low = omega (arith, l.low, m.low);
  inside = λ k from below. ⊎_elim
      (λ (lt : k < at). m.outside k (inl lt) ∙ l.inside k from lt)
      (λ (le : at ≤ k). m.inside k le below ∙ ap to_ascii_lowercase (l.outside k (inr le)))
      (cases_lt k at);
  outside = λ k out. ⊎_elim
      (λ (lt : k < start). m.outside k (inl (omega (arith, lt, l.low))) ∙ l.outside k (inl lt))
      (λ (le : end ≤ k). m.outside k (inr le) ∙ l.outside k (inr (omega (arith, le, m.low))))
      out;
}

pub lowered_all : (before after : List ℕ) (start at end : ℕ) → IsLowered before after start at → start ≤ end → end ≤ at → end ≤ length before → take end after ≡ take start before ++ lowered (take (end - start) (drop start before))
lowered_all before after start at end l order whole within =
    let front = take start before in
    let rest = drop start before in
    let back = take (end - start) rest in
    let few : length front ≡ start = length-take-le start before (omega arith) in
    let size : length (take end after) ≡ length (front ++ lowered back) =
    omega (arith, l.size, length-take-le end after (omega (arith, l.size)), length-append front (lowered back), few, length-map back to_ascii_lowercase, length-take-le (end - start) rest (omega (arith, length-drop start before)), length-drop start before) in
    ext_get_or 0 (take end after) (front ++ lowered back) size (λ i inside.
    let small : i < end = omega (arith, inside, length-take-le end after (omega (arith, l.size))) in
    get_or-take end after i 0 small ∙ ⊎_elim
    (λ (lt : i < start). l.outside i (inl lt)
    ∙ ap (λ xs. get_or xs i 0) (sym (take-append-drop start before))
    ∙ get_or-append front rest 0 i (omega (arith, few))
    ∙ sym (get_or-append front (lowered back) 0 i (omega (arith, few))))
    (λ (le : start ≤ i). l.inside i le (omega arith)
    ∙ ap to_ascii_lowercase (sym (get_or-take (end - start) rest (i - length front) 0 (omega (arith, few)) ∙ get_or-drop start before (i - length front) 0 ∙ ap (λ k. get_or before k 0) {x = start + (i - length front)} {y = i} (omega (arith, few))))
    ∙ sym (get_or-append_right front (lowered back) i 0 (omega (arith, few)) ∙ get_or-map to_ascii_lowercase back (i - length front) 0))
    (cases_lt i start))
