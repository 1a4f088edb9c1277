-- Octets are one name at most, which they spell.
use Rattle.std.proofs.Common.{◌≡◌, ◌≢◌, ℕ, ◌≤◌, Bool, true, false, List, [], ◌∷◌, ◌++◌, length, map, Option, None, Some, refl, sym, ◌∙◌, ap, subst, arith, length-append}
use Rattle.std.specs.Prelude.{◌&&◌, nat_le, if◌then◌else◌}
use Rattle.std.specs.Bool.{Decides}
use Rattle.std.specs.List.{All, list_all}
use Rattle.std.specs.Str.{bytes_eq}
use Rattle.std.proofs.lemmas.Bool.{and_parts}
use Rattle.std.proofs.lemmas.Bool.Decides.{nat_tests, Decides-by_and}
use Rattle.std.proofs.lemmas.List.{append-nil}
use Rattle.std.proofs.lemmas.Option.{none-some, same_Some}
use Rattle.std.proofs.lemmas.Slice.Eq.{bytes_eq-Decides}
use Rattle.dname.specs.Name.{Label, HasLabelLength, lowered, wire_of, labels_of}
use Rattle.dname.specs.Read.{Spells, StopsAt}
use Rattle.dname.specs.declared.name_fault.NameFault.{NameFault}
use Rattle.dname.proofs.WireLemmas.{labels_of-wire_of}
use Rattle.dname.proofs.ReadLemmas.{one_name, name_or_fault}
use Rattle.dname.specs.NameData.{has_label_length, spells_whole, name_in, one_name_in}

empty_rest : (xs ys : List ℕ) → length (xs ++ ys) ≡ length xs → ys ≡ []
empty_rest xs [] same = refl
empty_rest xs (y ∷ ys) same = absurd (omega (arith, length-append xs (y ∷ ys), same))

label_length_decides : (label : Label) → Decides (has_label_length label) (HasLabelLength label)
label_length_decides label = (λ is. grind (arith, nat_tests), λ is. grind (arith, nat_tests))

sizes_decide : (labels : List Label) → Decides (list_all has_label_length labels) (All HasLabelLength labels)
sizes_decide = Decides-by_and has_label_length HasLabelLength (list_all has_label_length) label_length_decides refl (λ _ _. refl)

within_255 : (n : ℕ) → Decides (nat_le n 255) (n ≤ 255)
within_255 n = (λ is. grind (arith, nat_tests), λ is. grind (arith, nat_tests))

all_three : (a b c : Bool) → a ≡ true → b ≡ true → c ≡ true → (a && (b && c)) ≡ true
all_three a b c is is' is'' = rw (is, is', is'') refl

taken_if : {A : Type 0} (test : Bool) (x y : A) → (if test then Some x else None) ≡ Some y → (test ≡ true) × (x ≡ y)
taken_if true x y is = (refl, same_Some x y is)
taken_if false x y is = absurd (none-some y is)

-- octets that spell a name, and no more, are that name
pub name_spelled : (octets : List ℕ) (name : List Label) → Spells octets name (length octets) → name_in octets ≡ Some name
name_spelled octets name s =
    let ended : s.rest ≡ [] = empty_rest (wire_of s.labels) s.rest (sym (ap length s.spelled) ∙ s.size) in
    let whole : octets ≡ wire_of s.labels = s.spelled ∙ ap (λ rest. wire_of s.labels ++ rest) ended ∙ append-nil (wire_of s.labels) in
    let back : s.labels ≡ labels_of octets = sym (ap labels_of whole ∙ labels_of-wire_of s.labels s.sizes) in
    let test : spells_whole s.labels octets ≡ true =
    all_three (bytes_eq (wire_of s.labels) octets) (list_all has_label_length s.labels) (nat_le (length octets) 255)
    ((bytes_eq-Decides (wire_of s.labels) octets).1 (sym whole)) ((sizes_decide s.labels).1 s.sizes) ((within_255 (length octets)).1 s.fits) in
    subst (λ labels. (if spells_whole labels octets then Some (map lowered labels) else None) ≡ Some name) back
    (rw test (ap Some (sym s.lower)))

-- and what octets are, they spell
pub spelled_name : (octets : List ℕ) (name : List Label) → name_in octets ≡ Some name → Spells octets name (length octets)
spelled_name octets name is =
    let labels = labels_of octets in
    let taken = taken_if (spells_whole labels octets) (map lowered labels) name is in
    let first = and_parts (bytes_eq (wire_of labels) octets) (list_all has_label_length labels && nat_le (length octets) 255) taken.0 in
    let more = and_parts (list_all has_label_length labels) (nat_le (length octets) 255) first.1 in
    let whole : octets ≡ wire_of labels = sym ((bytes_eq-Decides (wire_of labels) octets).0 first.0) in
    record {
      labels = labels;
      rest = [];
      spelled = whole ∙ sym (append-nil (wire_of labels));
      sizes = (sizes_decide labels).0 more.0;
      size = ap length whole;
      fits = (within_255 (length octets)).0 more.1;
      lower = sym taken.1;
    }

none_unless : {A : Type 0} (o : Option A) → ((x : A) → o ≡ Some x → ⊥) → None ≡ o
none_unless None not' = refl
none_unless (Some x) not' = absurd (not' x refl)

-- a name that ends before the octets do isn't what they are
pub name_ends_early : (octets : List ℕ) (name : List Label) (taken : ℕ) → Spells octets name taken → taken ≢ length octets → None ≡ name_in octets
name_ends_early octets name taken s early =
    none_unless (name_in octets) (λ other is. early (one_name octets name other taken (length octets) s (spelled_name octets other is)).1)

pub no_name_read : (octets : List ℕ) (fault : NameFault) → StopsAt octets fault → None ≡ name_in octets
no_name_read octets fault stops =
    none_unless (name_in octets) (λ name is. name_or_fault octets name (length octets) fault (spelled_name octets name is) stops)

-- the data is one item, which spells the name
pub one_item : (items : List (List ℕ)) (name : List Label) → one_name_in items ≡ Some name → (octets : List ℕ) × (items ≡ octets ∷ []) × Spells octets name (length octets)
one_item [] name is = absurd (none-some name is)
one_item (octets ∷ []) name is = (octets, refl, spelled_name octets name is)
one_item (octets ∷ other ∷ more) name is = absurd (none-some name is)
