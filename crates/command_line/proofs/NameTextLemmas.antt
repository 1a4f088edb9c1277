-- Domain names in text.
use Rattle.std.proofs.Common.{◌≡◌, ℕ, ◌+◌, ◌-◌, ◌==◌, ◌<◌, ◌≤◌, suc, Bool, true, false, not, if◌then◌else◌, List, [], ◌∷◌, ◌++◌, length, map, take, drop, Option, None, Some, refl, sym, ◌∙◌, ap, subst, arith, length-append, take_all}
use Rattle.std.specs.Prelude.{IfNone, IfSome, IsSome}
use Rattle.std.specs.Char.{to_ascii_lowercase}
use Rattle.std.specs.List.{All, onto_first, position_or_len, slice_split}
use Rattle.std.proofs.lemmas.Bool.{eqb-false, eqb-true, false≢true}
use Rattle.std.proofs.lemmas.List.{length-map}
use Rattle.std.proofs.lemmas.List.Elements.{All-cons, All-from_get_or, All-head, All-nil, All-tail}
use Rattle.std.proofs.lemmas.List.Splits.{length-slice_split, slice_split_first, slice_split_none}
use Rattle.std.proofs.lemmas.List.Sums.{fails_before_first, prefix_len-le-length}
use Rattle.dname.specs.Name.{Label, lowered, wire_of}
use Rattle.command_line.specs.Words.{AreLabelsOf, IsLabelText, Word, without_dot}

abbrev is_dot : ℕ → Bool
is_dot octet = octet == 46

abbrev pub parts : Word → List Word
parts text = slice_split is_dot text

-- ---- the dot at the end

without_last : (front : Word) (last : ℕ) → (last == 46) ≡ true → without_dot (front ++ last ∷ []) ≡ front
without_last [] last is = ap (λ b. if b then [] else last ∷ []) is
without_last (octet ∷ []) last is = ap (λ b. octet ∷ (if b then [] else last ∷ [])) is
without_last (octet ∷ next ∷ more) last is = ap (λ l. octet ∷ l) (without_last (next ∷ more) last is)

with_last : (front : Word) (last : ℕ) → (last == 46) ≡ false → without_dot (front ++ last ∷ []) ≡ front ++ last ∷ []
with_last [] last is = ap (λ b. if b then [] else last ∷ []) is
with_last (octet ∷ []) last is = ap (λ b. octet ∷ (if b then [] else last ∷ [])) is
with_last (octet ∷ next ∷ more) last is = ap (λ l. octet ∷ l) (with_last (next ∷ more) last is)

pub dot_last : (text front : Word) (last : ℕ) → text ≡ front ++ last ∷ [] → last ≡ 46 → front ≡ without_dot text
dot_last text front last is dot = sym (without_last front last (ap is_dot dot)) ∙ ap without_dot (sym is)

pub no_dot_last : (text front : Word) (last : ℕ) → text ≡ front ++ last ∷ [] → (last ≡ 46 → ⊥) → text ≡ without_dot text
no_dot_last text front last is other = is ∙ sym (with_last front last (by (is_dot last) refl)) ∙ ap without_dot (sym is)
  where
    by : (t : Bool) → is_dot last ≡ t → is_dot last ≡ false
    by true e = absurd (other (eqb-true last 46 e))
    by false e = e

-- ---- the parts between dots

last_part : (text : Word) (end : ℕ) → end ≡ position_or_len is_dot text → end ≡ length text → parts text ≡ text ∷ []
last_part text end at all =
    slice_split_none is_dot text
    (All-from_get_or (λ octet. is_dot octet ≡ false) text 0 (λ i within. fails_before_first is_dot text i 0 (subst (λ n. i < n) (sym all ∙ at) within)))

first_part : (text : Word) (end : ℕ) → end ≡ position_or_len is_dot text → end < length text → parts text ≡ take end text ∷ parts (drop (end + 1) text)
first_part text end at within =
    slice_split_first is_dot text 0 (subst (λ n. n < length text) at within) ∙ ap (λ n. take n text ∷ parts (drop (n + 1) text)) (sym at)

pub within_text : (text : Word) (end : ℕ) → end ≡ position_or_len is_dot text → end ≤ length text
within_text text end at = omega (arith, prefix_len-le-length (λ octet. not (is_dot octet)) text)

-- what is taken from the front
pub taken : (text : Word) (end : ℕ) (label : Word) → label ≡ take (end - 0) (drop 0 text) → label ≡ take end text
taken text end label is =
    let all : end - 0 ≡ end = omega arith in
    is ∙ ap (λ n. take n text) all

-- the first of them is a label, where all are
pub first_label : (text : Word) (end : ℕ) → end ≡ position_or_len is_dot text → end ≤ length text → All IsLabelText (parts text) → IsLabelText (take end text)
first_label text end at within each = by (end == length text) refl
  where
    by : (t : Bool) → (end == length text) ≡ t → IsLabelText (take end text)
    by true e =
        let all = eqb-true end (length text) e in
        subst IsLabelText (sym (ap (λ n. take n text) all ∙ take_all (length text) text (omega arith)))
        (All-head IsLabelText text [] (subst (All IsLabelText) (last_part text end at all) each))
    by false e =
        let apart = eqb-false end (length text) e in
        All-head IsLabelText (take end text) (parts (drop (end + 1) text)) (subst (All IsLabelText) (first_part text end at (omega arith)) each)

-- ---- the octets of a name

-- a label more
size_more : (label : Label) (name : List Label) → length (wire_of (label ∷ name)) ≡ suc (length label + length (wire_of name))
size_more label name = ap suc (length-append label (wire_of name))

size_lowered : (label : Word) (name : List Label) → length (wire_of (lowered label ∷ name)) ≡ suc (length label + length (wire_of name))
size_lowered label name = size_more (lowered label) name ∙ ap (λ n. suc (n + length (wire_of name))) (length-map label to_ascii_lowercase)

-- an octet more in the first
size_onto : (octet : ℕ) (pieces : List Word) → 1 ≤ length pieces → length (wire_of (map lowered (onto_first octet pieces))) ≡ suc (length (wire_of (map lowered pieces)))
size_onto octet [] some = absurd (omega (arith, some))
size_onto octet (piece ∷ pieces) some =
    let one : length (octet ∷ piece) ≡ suc (length piece) = refl in
    omega (arith, size_lowered (octet ∷ piece) (map lowered pieces), size_lowered piece (map lowered pieces))

some_part : (text : Word) → 1 ≤ length (parts text)
some_part text = omega (arith, length-slice_split is_dot text)

size_by : (t : Bool) (octet : ℕ) (text : Word) → is_dot octet ≡ t → length (wire_of (map lowered (parts text))) ≡ length text + 2
    → length (wire_of (map lowered (parts (octet ∷ text)))) ≡ suc (length text) + 2
size_by true octet text e rest = rw e (omega (arith, rest))
size_by false octet text e rest = rw e (size_onto octet (parts text) (some_part text) ∙ omega (arith, rest))

size_parts : (text : Word) → length (wire_of (map lowered (parts text))) ≡ length text + 2
size_parts [] = refl
size_parts (octet ∷ text) = size_by (is_dot octet) octet text refl (size_parts text)

-- ---- a label is put before a name

no_labels : AreLabelsOf [] []
no_labels = record { each = All-nil IsLabelText; kept = refl; fits = omega arith }

label_read : (label : Word) (pieces : List Word) (name : List Label) (r : Option (List Label)) → IsLabelText label → AreLabelsOf pieces name
    → (IsSome r → length (wire_of (label ∷ name)) ≤ 255) → IfSome r (λ child. child ≡ lowered label ∷ name) → IfSome r (AreLabelsOf (label ∷ pieces))
label_read label pieces name None is above room value = tt
label_read label pieces name (Some child) is above room value = record {
  each = All-cons IsLabelText label pieces is above.each;
  kept = value ∙ ap (λ l. lowered label ∷ l) above.kept;
  fits = subst (λ n. n ≤ 255) (size_more label name ∙ sym (size_lowered label name) ∙ ap (λ l. length (wire_of l)) (sym value)) (room refl);
}

-- what is above the label is a name too
above_of : (label : Word) (pieces : List Word) (whole : List Label) → AreLabelsOf (label ∷ pieces) whole → AreLabelsOf pieces (map lowered pieces)
above_of label pieces whole all = record {
  each = All-tail IsLabelText label pieces all.each;
  kept = refl;
  fits = omega (arith, all.fits, ap (λ l. length (wire_of l)) all.kept ∙ size_lowered label (map lowered pieces));
}

label_none : (label : Word) (pieces : List Word) (name : List Label) (r : Option (List Label)) → AreLabelsOf pieces name
    → (length (wire_of (label ∷ name)) ≤ 255 → IsSome r) → IfNone r ((whole : List Label) → AreLabelsOf (label ∷ pieces) whole → ⊥)
label_none label pieces name None above room = λ whole all.
    let fits : length (wire_of (label ∷ name)) ≤ 255 =
    subst (λ n. n ≤ 255) (ap (λ l. length (wire_of l)) (all.kept ∙ ap (λ l. lowered label ∷ l) (sym above.kept)) ∙ size_lowered label name ∙ sym (size_more label name)) all.fits in
    false≢true (room fits)
label_none label pieces name (Some child) above room = tt

above_none : (label : Word) (pieces : List Word) → ((name : List Label) → AreLabelsOf pieces name → ⊥) → (whole : List Label) → AreLabelsOf (label ∷ pieces) whole → ⊥
above_none label pieces none whole all = none (map lowered pieces) (above_of label pieces whole all)

-- ---- the name as a whole

-- the one label, or the last
pub ends_read : (text : Word) (end : ℕ) (label : Word) (root : List Label) (r : Option (List Label)) → end ≡ position_or_len is_dot text → end ≡ length text → label ≡ take (end - 0) (drop 0 text)
    → IsLabelText label → root ≡ [] → (IsSome r → length (wire_of (label ∷ root)) ≤ 255) → IfSome r (λ child. child ≡ lowered label ∷ root) → IfSome r (AreLabelsOf (parts text))
ends_read text end label root r at all is labelled none room value =
    let whole = taken text end label is ∙ ap (λ n. take n text) all ∙ take_all (length text) text (omega arith) in
    let one = ap (λ l. l ∷ []) whole ∙ sym (last_part text end at all) in
    subst (λ pieces. IfSome r (AreLabelsOf pieces)) one (label_read label [] root r labelled (subst (AreLabelsOf []) (sym none) no_labels) room value)

cut_is : (text : Word) (end : ℕ) (label back : Word) → end ≡ position_or_len is_dot text → (end ≡ length text → ⊥) → label ≡ take (end - 0) (drop 0 text) → back ≡ drop (end + 1) text
    → label ∷ parts back ≡ parts text
cut_is text end label back at more is rest =
    (λ i. taken text end label is i ∷ parts (rest i)) ∙ sym (first_part text end at (omega (arith, within_text text end at)))

-- a label, and the name above it
pub cut_read : (text : Word) (end : ℕ) (label back : Word) (name : List Label) (r : Option (List Label)) → end ≡ position_or_len is_dot text → (end ≡ length text → ⊥)
    → label ≡ take (end - 0) (drop 0 text) → back ≡ drop (end + 1) text → IsLabelText label → AreLabelsOf (parts back) name
    → (IsSome r → length (wire_of (label ∷ name)) ≤ 255) → IfSome r (λ child. child ≡ lowered label ∷ name) → IfSome r (AreLabelsOf (parts text))
cut_read text end label back name r at more is rest labelled above room value =
    subst (λ pieces. IfSome r (AreLabelsOf pieces)) (cut_is text end label back at more is rest) (label_read label (parts back) name r labelled above room value)

pub cut_none : (text : Word) (end : ℕ) (label back : Word) (name : List Label) (r : Option (List Label)) → end ≡ position_or_len is_dot text → (end ≡ length text → ⊥)
    → label ≡ take (end - 0) (drop 0 text) → back ≡ drop (end + 1) text → AreLabelsOf (parts back) name
    → (length (wire_of (label ∷ name)) ≤ 255 → IsSome r) → IfNone r ((whole : List Label) → AreLabelsOf (parts text) whole → ⊥)
cut_none text end label back name r at more is rest above room =
    subst (λ pieces. IfNone r ((whole : List Label) → AreLabelsOf pieces whole → ⊥)) (cut_is text end label back at more is rest) (label_none label (parts back) name r above room)

pub above_refused : (text : Word) (end : ℕ) (label back : Word) → end ≡ position_or_len is_dot text → (end ≡ length text → ⊥) → label ≡ take (end - 0) (drop 0 text) → back ≡ drop (end + 1) text
    → ((name : List Label) → AreLabelsOf (parts back) name → ⊥) → (whole : List Label) → AreLabelsOf (parts text) whole → ⊥
above_refused text end label back at more is rest none =
    subst (λ pieces. (whole : List Label) → AreLabelsOf pieces whole → ⊥) (cut_is text end label back at more is rest) (above_none label (parts back) none)

-- a longer text writes none
pub too_long : (text : Word) → 253 < length text → (name : List Label) → AreLabelsOf (parts text) name → ⊥
too_long text long name all = absurd (omega (arith, size_parts text, all.fits, ap (λ l. length (wire_of l)) all.kept))

pub if_none : (r : Option (List Label)) (refused : Type 0) → refused → IfNone r refused
if_none None refused is = is
if_none (Some name) refused is = tt
