-- The wildcard below a closest encloser fits a name.
use Rattle.std.proofs.Common.{◌≡◌, ◌≢◌, ◌+◌, ◌≤◌, List, [], ◌∷◌, ◌++◌, length, refl, sym, ◌∙◌, ap, subst, arith, length-append, ◌⊎◌, inl, inr, ⊎_elim}
use Rattle.std.specs.List.{All}
use Rattle.std.specs.declared.cmp.Ordering.TheVariants.{Less}
use Rattle.std.proofs.lemmas.List.Elements.{All-head, All-tail}
use Rattle.dname.specs.Name.{Label, IsLabel, IsName, IsUnder, asterisk, wire_of, canonical_cmp}
use Rattle.dname.specs.Order.{canonical_total}
use Rattle.dname.specs.Arc.{IsInside}
use Rattle.dname.proofs.OrderLemmas.{not_before}
use Rattle.dname.proofs.TogetherLemmas.{above_is_first, stands_together}
use Rattle.dname.proofs.ArcLemmas.{no_end_inside}
use Rattle.zone_meaning.specs.Consistent.{NsecPart}
use Rattle.zone_meaning.specs.Denial.{IsNoName, IsEncloserBy}

-- where the next owner isn't below a name inside the arc, the owner isn't either
owner_elsewhere : (part : NsecPart) (name : List Label) → IsNoName part name → IsUnder part.owner name → ⊥
owner_elsewhere part name none under = by none.inside
  where
    apart : part.owner ≢ name
    apart e = (no_end_inside canonical_cmp canonical_total part.owner part.next).0 (subst (IsInside canonical_cmp part.owner part.next) (sym e) none.inside)

    first : canonical_cmp name part.owner ≡ Less
    first = above_is_first part.owner name under apart

    by : IsInside canonical_cmp part.owner part.next name → ⊥
    by (inl h) = not_before name part.owner first h.1
    by (inr h) = ⊎_elim
        (λ after. not_before name part.owner first after)
        (λ short. none.next_elsewhere (stands_together name part.next part.owner under (not_before name part.next short) h.0))
        h.2

not_itself : (part : NsecPart) (name encloser : List Label) → IsNoName part name → IsEncloserBy part name encloser → name ≢ encloser
not_itself part name encloser none nearest e = ⊎_elim (owner_elsewhere part name none) none.next_elsewhere (subst (λ n. IsUnder part.owner n ⊎ IsUnder part.next n) (sym e) nearest.shared)

longer_by : (front rest : List Label) → All IsLabel (front ++ rest) → front ++ rest ≢ rest → length (wire_of rest) + 2 ≤ length (wire_of (front ++ rest))
longer_by [] rest each apart = absurd (apart refl)
longer_by (label ∷ []) rest each apart =
    let size = (All-head IsLabel label rest each).size in
    omega (arith, length-append label (wire_of rest))
longer_by (label ∷ another ∷ front) rest each apart =
    let size = (All-head IsLabel label (another ∷ front ++ rest) each).size in
    let more : length (wire_of rest) + 2 ≤ length (wire_of (another ∷ front ++ rest)) = longer_by (another ∷ front) rest (All-tail IsLabel label (another ∷ front ++ rest) each) (longer front rest) in
    omega (arith, length-append label (wire_of (another ∷ front ++ rest)))
  where
    longer : (front rest : List Label) → another ∷ front ++ rest ≢ rest
    longer front rest e = omega (arith, ap length e, length-append front rest)

-- so a wildcard below a name that is above another fits
pub wildcard_fits_above : (name encloser : List Label) → IsName name → IsUnder name encloser → name ≢ encloser → length (wire_of (asterisk ∷ encloser)) ≤ 255
wildcard_fits_above name encloser is above apart =
    let longer : length (wire_of encloser) + 2 ≤ length (wire_of (above.0 ++ encloser)) =
    longer_by above.0 encloser (subst (All IsLabel) above.1 is.each) (λ e. apart (above.1 ∙ e)) in
    omega (arith, ap (λ (n : List Label). length (wire_of n)) above.1, is.fits)

pub wildcard_fits : (part : NsecPart) (name encloser : List Label) → IsName name → IsNoName part name → IsEncloserBy part name encloser → length (wire_of (asterisk ∷ encloser)) ≤ 255
wildcard_fits part name encloser is none nearest = wildcard_fits_above name encloser is nearest.above (not_itself part name encloser none nearest)
