-- Two names that lose labels from the left until the same labels are left of both.
use Rattle.std.proofs.Common.{◌≡◌, ◌≢◌, ◌+◌, ◌<◌, ◌≤◌, Bool, List, [], ◌∷◌, ◌++◌, length, drop, reverse, refl, sym, ◌∙◌, ap, subst, arith, length-append, append_assoc}
use Rattle.std.specs.declared.cmp.Ordering.{Ordering}
use Rattle.std.specs.declared.cmp.Ordering.TheVariants.{Less, Equal, Greater}
use Rattle.std.specs.Ordering.{ordering_then}
use Rattle.std.specs.Cmp.Lexicographic.{slice_cmp}
use Rattle.std.specs.FinMap.{slice_cmp-IsAntisymmetric, nat_cmp-IsAntisymmetric}
use Rattle.std.specs.Bool.{Decides}
use Rattle.std.proofs.lemmas.List.{reverse-append, reverse-reverse}
use Rattle.std.proofs.lemmas.List.Elements.{All-head}
use Rattle.dname.specs.Name.{Label, IsLabel, IsName, IsUnder, IsCommon, wire_of, label_cmp, canonical_cmp}
use Rattle.dname.specs.Order.{canonical_same}
use Rattle.dname.specs.Digest.{first_label}
use Rattle.dname.proofs.DigestLemmas.{past_apex}
use Rattle.dname.proofs.UnderLemmas.{under_is_longer}
use Rattle.dname.proofs.OrderLemmas.{canonical_cmp-append}

abbrev pub IsSome_taken : List Label → Type 0
IsSome_taken [] = Unit {0}
IsSome_taken (label ∷ labels) = 1 ≤ length label

-- the labels taken, the latest first; each name that both are under, both of what is left are under
pub record Meets (name other rest rest' : List Label) (label label' : Label) : Type 0 where
  pub taken : List Label
  pub taken' : List Label
  pub is : name ≡ reverse taken ++ rest
  pub is' : other ≡ reverse taken' ++ rest'
  pub last : label ≡ first_label taken
  pub last' : label' ≡ first_label taken'
  pub some : IsSome_taken taken
  pub some' : IsSome_taken taken'
  pub shared : (s : List Label) → IsUnder name s → IsUnder other s → IsUnder rest s × IsUnder rest' s

pub meets_none : (name other : List Label) → Meets name other name other [] []
meets_none name other = record {
  taken = [];
  taken' = [];
  is = refl;
  is' = refl;
  last = refl;
  last' = refl;
  some = tt;
  some' = tt;
  shared = λ s under under'. (under, under');
}

-- ---- one label more

one_more : (taken rest : List Label) (label : Label) → reverse (label ∷ taken) ++ rest ≡ reverse taken ++ (label ∷ rest)
one_more taken rest label = ap (λ l. l ++ rest) (reverse-append (label ∷ []) taken) ∙ append_assoc (reverse taken) (label ∷ []) rest

more : (name labels rest taken : List Label) (label : Label) → name ≡ reverse taken ++ labels → labels ≡ label ∷ rest → name ≡ reverse (label ∷ taken) ++ rest
more name labels rest taken label is first = is ∙ ap (λ l. reverse taken ++ l) first ∙ sym (one_more taken rest label)

has_octets : (labels rest : List Label) (label : Label) → IsName labels → labels ≡ label ∷ rest → 1 ≤ length label
has_octets labels rest label name is = (All-head IsLabel label rest (subst IsName is name).each).size.0

-- what is above a name, and isn't it, is above what follows its first label
above_rest : (labels rest s : List Label) (label : Label) → IsUnder labels s → labels ≡ label ∷ rest → labels ≢ s → IsUnder rest s
above_rest labels rest s label under is not = by under.0 under.1
  where
    by : (front : List Label) → labels ≡ front ++ s → IsUnder rest s
    by [] same = absurd (not same)
    by (first ∷ front) same = (front, ap (drop 1) (sym is ∙ same))

-- a name that is under another has more octets, or is that one
size_under : (front rest : List Label) → length front + length (wire_of rest) ≤ length (wire_of (front ++ rest))
size_under [] rest = omega arith
size_under (label ∷ front) rest = omega (arith, length-append label (wire_of (front ++ rest)), size_under front rest)

same_size_under : (labels s : List Label) → IsUnder labels s → length (wire_of labels) ≤ length (wire_of s) → labels ≡ s
same_size_under labels s under size = by under.0 under.1
  where
    by : (front : List Label) → labels ≡ front ++ s → labels ≡ s
    by [] same = same
    by (first ∷ front) same = absurd (omega (arith, size_under (first ∷ front) s, ap (λ l. length (wire_of l)) same, size))

pub meets_first : (name other labels rest rest' : List Label) (l l' label : Label) → Meets name other labels rest' l l' → IsName labels → labels ≡ label ∷ rest → length (wire_of rest') < length (wire_of labels) → Meets name other rest rest' label l'
meets_first name other labels rest rest' l l' label m good is longer = record {
  taken = label ∷ m.taken;
  taken' = m.taken';
  is = more name labels rest m.taken label m.is is;
  is' = m.is';
  last = refl;
  last' = m.last';
  some = has_octets labels rest label good is;
  some' = m.some';
  shared = λ s under under'.
      let h = m.shared s under under' in
      let short : length (wire_of s) ≤ length (wire_of rest') = omega (arith, size_under h.1.0 s, ap (λ n. length (wire_of n)) h.1.1) in
      (above_rest labels rest s label h.0 is (λ same. omega (arith, ap (λ n. length (wire_of n)) same)), h.1);
}

pub meets_second : (name other labels' rest rest' : List Label) (l l' label' : Label) → Meets name other rest labels' l l' → IsName labels' → labels' ≡ label' ∷ rest' → length (wire_of rest) < length (wire_of labels') → Meets name other rest rest' l label'
meets_second name other labels' rest rest' l l' label' m good is longer = record {
  taken = m.taken;
  taken' = label' ∷ m.taken';
  is = m.is;
  is' = more other labels' rest' m.taken' label' m.is' is;
  last = m.last;
  last' = refl;
  some = m.some;
  some' = has_octets labels' rest' label' good is;
  shared = λ s under under'.
      let h = m.shared s under under' in
      let short : length (wire_of s) ≤ length (wire_of rest) = omega (arith, size_under h.0.0 s, ap (λ n. length (wire_of n)) h.0.1) in
      (h.0, above_rest labels' rest' s label' h.1 is (λ same. omega (arith, ap (λ n. length (wire_of n)) same)));
}

pub meets_both : (name other labels labels' rest rest' : List Label) (l l' label label' : Label) → Meets name other labels labels' l l' → IsName labels → IsName labels' → labels ≡ label ∷ rest → labels' ≡ label' ∷ rest' → length (wire_of labels) ≡ length (wire_of labels') → labels ≢ labels' → Meets name other rest rest' label label'
meets_both name other labels labels' rest rest' l l' label label' m good good' is is' size not = record {
  taken = label ∷ m.taken;
  taken' = label' ∷ m.taken';
  is = more name labels rest m.taken label m.is is;
  is' = more other labels' rest' m.taken' label' m.is' is';
  last = refl;
  last' = refl;
  some = has_octets labels rest label good is;
  some' = has_octets labels' rest' label' good' is';
  shared = λ s under under'.
      let h = m.shared s under under' in (
        above_rest labels rest s label h.0 is (λ same. not (same ∙ sym (same_size_under labels' s h.1 (omega (arith, size, ap (λ n. length (wire_of n)) same))))),
        above_rest labels' rest' s label' h.1 is' (λ same. not (same_size_under labels s h.0 (omega (arith, size, ap (λ n. length (wire_of n)) same)) ∙ sym same)),
      );
}

-- ---- at the end the labels taken last decide

apart : (x y : Label) (r : Ordering) → x ≢ y → ordering_then (label_cmp x y) r ≡ label_cmp x y
apart x y r not = by (label_cmp x y) refl
  where
    by : (o : Ordering) → label_cmp x y ≡ o → ordering_then o r ≡ o
    by Less is = refl
    by Equal is = absurd (not (slice_cmp-IsAntisymmetric nat_cmp-IsAntisymmetric x y is))
    by Greater is = refl

pub meets_end : (name other rest rest' : List Label) (l l' : Label) → Meets name other rest rest' l l' → rest ≡ rest' → label_cmp l l' ≡ canonical_cmp name other
meets_end name other rest rest' l l' m same =
    (λ i. label_cmp (m.last i) (m.last' i))
    ∙ sym ((λ i. canonical_cmp (m.is i) (m.is' i))
    ∙ canonical_cmp-append (reverse m.taken) (reverse m.taken') rest rest' (ap length same)
    ∙ ap (λ o. ordering_then o (canonical_cmp (reverse m.taken) (reverse m.taken'))) (canonical_same rest rest' same)
    ∙ (λ i. slice_cmp label_cmp (reverse-reverse m.taken i) (reverse-reverse m.taken' i))
    ∙ by m.taken m.taken' m.some m.some' m.is m.is')
  where
    by : (t t' : List Label) → IsSome_taken t → IsSome_taken t' → name ≡ reverse t ++ rest → other ≡ reverse t' ++ rest' → slice_cmp label_cmp t t' ≡ label_cmp (first_label t) (first_label t')
    by [] [] some some' is is' = refl
    by [] ([] ∷ ls) some some' is is' = absurd (omega (arith, some'))
    by [] ((octet ∷ label) ∷ ls) some some' is is' = refl
    by ([] ∷ ls) [] some some' is is' = absurd (omega (arith, some))
    by ((octet ∷ label) ∷ ls) [] some some' is is' = refl
    by (x ∷ xs) (y ∷ ys) some some' is is' = apart x y (slice_cmp label_cmp xs ys) (λ level.
        let under : IsUnder name (x ∷ rest) = (reverse xs, is ∙ one_more xs rest x) in
        let under' : IsUnder other (x ∷ rest) = (reverse ys, is' ∙ one_more ys rest' y ∙ (λ i. reverse ys ++ (sym level i ∷ sym same i))) in
        omega (arith, under_is_longer rest (x ∷ rest) (m.shared (x ∷ rest) under under').0))

-- and what is left is the longest common ancestor
pub meets_common : (name other rest rest' : List Label) (l l' : Label) → Meets name other rest rest' l l' → rest ≡ rest' → IsCommon name other rest
meets_common name other rest rest' l l' m same = record {
  first = (reverse m.taken, m.is);
  second = (reverse m.taken', m.is' ∙ ap (λ n. reverse m.taken' ++ n) (sym same));
  longest = λ another under under'. (m.shared another under under').0;
}

-- ---- one name loses labels while it has more octets than the other

pub record Loses (name other rest : List Label) : Type 0 where
  pub under : IsUnder name rest
  pub stays : IsUnder name other → IsUnder rest other

pub loses_first : (name other labels rest : List Label) (label : Label) → Loses name other labels → labels ≡ label ∷ rest → length (wire_of other) < length (wire_of labels) → Loses name other rest
loses_first name other labels rest label l is longer = record {
  under = (l.under.0 ++ label ∷ [], l.under.1 ∙ ap (λ n. l.under.0 ++ n) is ∙ sym (append_assoc l.under.0 (label ∷ []) rest));
  stays = λ u. above_rest labels rest other label (l.stays u) is (λ same. omega (arith, ap (λ n. length (wire_of n)) same));
}

pub loses_all : (name other rest : List Label) (r : Bool) → Loses name other rest → length (wire_of rest) ≤ length (wire_of other) → Decides r (rest ≡ other) → Decides r (IsUnder name other)
loses_all name other rest r l short decides = (
  λ yes. subst (IsUnder name) (decides.0 yes) l.under,
  λ u. decides.1 (same_size_under rest other (l.stays u) short),
)

-- ---- a name loses labels until its apex is left, and the label that was taken last is kept

pub record Nears (name apex rest : List Label) (label : Label) : Type 0 where
  pub taken : List Label
  pub is : name ≡ reverse taken ++ rest
  pub last : label ≡ first_label taken
  pub under : IsUnder rest apex

pub nears_first : (name apex labels rest : List Label) (l label : Label) → Nears name apex labels l → labels ≡ label ∷ rest → length (wire_of apex) < length (wire_of labels) → Nears name apex rest label
nears_first name apex labels rest l label n is longer = record {
  taken = label ∷ n.taken;
  is = more name labels rest n.taken label n.is is;
  last = refl;
  under = above_rest labels rest apex label n.under is (λ same. omega (arith, ap (λ m. length (wire_of m)) same));
}

pub nears_end : (name apex rest : List Label) (label : Label) → Nears name apex rest label → length (wire_of rest) ≤ length (wire_of apex) → label ≡ first_label (drop (length apex) (reverse name))
nears_end name apex rest label n short =
    n.last ∙ ap first_label (sym (ap (λ m. drop (length apex) (reverse m)) (n.is ∙ ap (λ r. reverse n.taken ++ r) (same_size_under rest apex n.under short))
    ∙ past_apex (reverse n.taken) apex ∙ reverse-reverse n.taken))
