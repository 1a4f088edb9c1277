-- A name that an NSEC record covers is above neither of its ends, so its closest encloser is above it.
use Rattle.std.proofs.Common.{◌≡◌, ◌≢◌, Bool, true, false, not, ◌&&◌, List, refl, sym, subst, ◌⊎◌, inl, inr, ⊎_elim, IsTrue}
use Rattle.std.specs.declared.cmp.Ordering.TheVariants.{Less}
use Rattle.std.proofs.lemmas.Bool.Decides.{not_from_Decides}
use Rattle.dname.specs.Name.{Label, IsUnder, canonical_cmp}
use Rattle.dname.specs.Order.{canonical_total, canonical_equal}
use Rattle.dname.specs.Tests.{same_name, is_under}
use Rattle.dname.specs.Arc.{arc_has, IsInside}
use Rattle.dname.proofs.ArcLemmas.{no_end_inside, inside_arc}
use Rattle.dname.proofs.OrderLemmas.{not_before}
use Rattle.dname.proofs.SameLemmas.{same_name_decides}
use Rattle.dname.proofs.TogetherLemmas.{above_is_first, stands_together}
use Rattle.dname.proofs.UnderLemmas.{under_decides}
use Rattle.encloser.specs.Encloser.{encloser_of}
use Rattle.encloser.proofs.EncloserLemmas.{encloser_is}

-- of a name inside an arc whose end isn't below it the start isn't below it either
owner_elsewhere : (owner next name : List Label) → IsInside canonical_cmp owner next name → (IsUnder next name → ⊥) → IsUnder owner name → ⊥
owner_elsewhere owner next name inside elsewhere under = by inside
  where
    apart : owner ≢ name
    apart e = (no_end_inside canonical_cmp canonical_total owner next).0 (subst (IsInside canonical_cmp owner next) (sym e) inside)

    first : canonical_cmp name owner ≡ Less
    first = above_is_first owner name under apart

    by : IsInside canonical_cmp owner next name → ⊥
    by (inl h) = not_before name owner first h.1
    by (inr h) = ⊎_elim
        (λ after. not_before name owner first after)
        (λ short. elsewhere (stands_together name next owner under (not_before name next short) h.0))
        h.2

neither : (a b : Bool) → (not a && not b) ≡ true → (a ≡ false) × (b ≡ false)
neither true b h = cc
neither false true h = cc
neither false false h = (refl, refl)

pub covered_apart : (owner next name : List Label) → IsTrue (arc_has canonical_cmp owner next name) → (not (same_name owner name) && not (is_under next name)) ≡ true → name ≢ encloser_of name owner next
covered_apart owner next name has covered e =
    let h = neither (same_name owner name) (is_under next name) covered in
    let apart : name ≢ owner = λ same. not_from_Decides (same_name owner name) (same_name_decides owner name) h.0 (sym same) in
    let elsewhere : IsUnder next name → ⊥ = not_from_Decides (is_under next name) (under_decides next name) h.1 in
    ⊎_elim (owner_elsewhere owner next name ((inside_arc canonical_cmp canonical_total canonical_equal owner next name).1 (has, apart)) elsewhere) elsewhere
    (subst (λ (n : List Label). IsUnder owner n ⊎ IsUnder next n) (sym e) (encloser_is name owner next).shared)
