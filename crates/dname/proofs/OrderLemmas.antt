-- Canonical order, label by label from the left, and of two names not both ways.
use Rattle.std.proofs.Common.{◌≡◌, ◌≢◌, List, [], ◌∷◌, ◌++◌, length, reverse, refl, sym, ◌∙◌, ap, arith}
use Rattle.std.specs.declared.cmp.Ordering.{Ordering}
use Rattle.std.specs.declared.cmp.Ordering.TheVariants.{Less, Equal, Greater}
use Rattle.std.specs.Ordering.{ordering_then}
use Rattle.std.specs.Cmp.Lexicographic.{slice_cmp}
use Rattle.std.proofs.lemmas.List.{reverse-append, length-reverse}
use Rattle.dname.specs.Name.{Label, label_cmp, canonical_cmp}
use Rattle.dname.specs.Order.{canonical_total}
use Rattle.dname.proofs.ArcLemmas.{not_both_ways}

then-assoc : (a b c : Ordering) → ordering_then (ordering_then a b) c ≡ ordering_then a (ordering_then b c)
then-assoc Less b c = refl
then-assoc Equal b c = refl
then-assoc Greater b c = refl

-- lists with fronts of one length compare by these first
pub slice_cmp-append : {A : Type 0} (R : A → A → Ordering) (front front' rest rest' : List A) → length front ≡ length front' → slice_cmp R (front ++ rest) (front' ++ rest') ≡ ordering_then (slice_cmp R front front') (slice_cmp R rest rest')
slice_cmp-append R [] [] rest rest' long = refl
slice_cmp-append R [] (y ∷ ys) rest rest' long = absurd (omega arith)
slice_cmp-append R (x ∷ xs) [] rest rest' long = absurd (omega arith)
slice_cmp-append R (x ∷ xs) (y ∷ ys) rest rest' long =
    ap (ordering_then (R x y)) (slice_cmp-append R xs ys rest rest' (omega arith)) ∙ sym (then-assoc (R x y) (slice_cmp R xs ys) (slice_cmp R rest rest'))

-- names whose last labels are as many compare by these first
pub canonical_cmp-append : (front front' rest rest' : List Label) → length rest ≡ length rest' → canonical_cmp (front ++ rest) (front' ++ rest') ≡ ordering_then (canonical_cmp rest rest') (canonical_cmp front front')
canonical_cmp-append front front' rest rest' long =
    rw (reverse-append front rest, reverse-append front' rest')
    (slice_cmp-append label_cmp (reverse rest) (reverse rest') (reverse front) (reverse front') (length-reverse rest ∙ long ∙ sym (length-reverse rest')))

-- of two names each isn't before the other
pub not_before : (x y : List Label) → canonical_cmp x y ≡ Less → canonical_cmp y x ≢ Less
not_before x y less back = not_both_ways canonical_cmp canonical_total x y less back
