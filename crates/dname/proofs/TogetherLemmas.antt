-- A name comes before all that is below it, and between the two stand names below it alone.
use Rattle.std.proofs.Common.{◌≡◌, ◌≢◌, List, [], ◌∷◌, ◌++◌, reverse, refl, sym, ◌∙◌, ap, subst}
use Rattle.std.specs.declared.cmp.Ordering.{Ordering}
use Rattle.std.specs.declared.cmp.Ordering.TheVariants.{Less, Equal, Greater}
use Rattle.std.specs.Ordering.{ordering_then, ordering_reverse}
use Rattle.std.specs.Cmp.{IsTotalOrder}
use Rattle.std.specs.Cmp.Lexicographic.{slice_cmp, nat_list_cmp_total}
use Rattle.std.specs.FinMap.{slice_cmp-IsAntisymmetric, nat_cmp-IsAntisymmetric}
use Rattle.std.proofs.lemmas.Cmp.{tied_itself}
use Rattle.std.proofs.lemmas.List.{reverse-append, reverse-reverse}
use Rattle.dname.specs.Name.{Label, IsUnder, label_cmp, canonical_cmp}

-- two values in turn, neither before the other so far
step : (r s o p : Ordering) → r ≡ ordering_reverse s → ordering_then r o ≢ Less → ordering_then s p ≢ Less → (r ≡ Equal) × ((o ≢ Less) × (p ≢ Less))
step Less s o p back h g = absurd (h refl)
step Equal Less o p back h g = absurd (g refl)
step Equal Equal o p back h g = (refl, (h, g))
step Equal Greater o p back h g = cc
step Greater Less o p back h g = absurd (g refl)
step Greater Equal o p back h g = cc
step Greater Greater o p back h g = cc

module _ {A : Type 0} (R : A → A → Ordering) (total : IsTotalOrder R) where
  -- a front comes before what goes on
  front_first : (front rest : List A) → rest ≢ [] → slice_cmp R front (front ++ rest) ≡ Less
  front_first [] [] some = absurd (some refl)
  front_first [] (y ∷ ys) some = refl
  front_first (x ∷ front) rest some = ap (λ o. ordering_then o (slice_cmp R front (front ++ rest))) (tied_itself total x) ∙ front_first front rest some

  -- what is not before a front, and not after one that goes on from it, goes on from it too
  goes_on : ((x y : A) → R x y ≡ Equal → x ≡ y) → (front rest xs : List A) → slice_cmp R xs front ≢ Less → slice_cmp R (front ++ rest) xs ≢ Less → (more : List A) × (xs ≡ front ++ more)
  goes_on ties [] rest xs after short = (xs, refl)
  goes_on ties (y ∷ front) rest [] after short = absurd (after refl)
  goes_on ties (y ∷ front) rest (x ∷ xs) after short =
      let h : (R x y ≡ Equal) × ((slice_cmp R xs front ≢ Less) × (slice_cmp R (front ++ rest) xs ≢ Less)) =
      step (R x y) (R y x) (slice_cmp R xs front) (slice_cmp R (front ++ rest) xs) (total.antisymm x y) after short in
      let more : (more : List A) × (xs ≡ front ++ more) = goes_on ties front rest xs h.1.0 h.1.1 in
      (more.0, ap (λ (z : A). z ∷ xs) (ties x y h.0) ∙ ap (λ (zs : List A). y ∷ zs) more.1)

-- a name comes before each name below it
pub above_is_first : (name ancestor : List Label) → IsUnder name ancestor → name ≢ ancestor → canonical_cmp ancestor name ≡ Less
above_is_first name ancestor under apart =
    let parts : reverse name ≡ reverse ancestor ++ reverse under.0 = ap reverse under.1 ∙ reverse-append under.0 ancestor in
    ap (λ l. slice_cmp label_cmp (reverse ancestor) l) parts
    ∙ front_first label_cmp nat_list_cmp_total (reverse ancestor) (reverse under.0)
    (λ none. apart (under.1 ∙ ap (λ (l : List Label). l ++ ancestor) (sym (reverse-reverse under.0) ∙ ap reverse none)))

-- of a name and one below it, what stands between is below the name too
pub stands_together : (ancestor name last : List Label) → IsUnder last ancestor → canonical_cmp name ancestor ≢ Less → canonical_cmp last name ≢ Less → IsUnder name ancestor
stands_together ancestor name last under after short =
    let parts : reverse last ≡ reverse ancestor ++ reverse under.0 = ap reverse under.1 ∙ reverse-append under.0 ancestor in
    let h : (more : List Label) × (reverse name ≡ reverse ancestor ++ more) =
    goes_on label_cmp nat_list_cmp_total (slice_cmp-IsAntisymmetric nat_cmp-IsAntisymmetric) (reverse ancestor) (reverse under.0) (reverse name) after
    (subst (λ (l : List Label). slice_cmp label_cmp l (reverse name) ≢ Less) parts short) in (
      reverse h.0,
      sym (reverse-reverse name) ∙ ap reverse h.1 ∙ reverse-append (reverse ancestor) h.0 ∙ ap (λ (l : List Label). reverse h.0 ++ l) (reverse-reverse ancestor),
    )
