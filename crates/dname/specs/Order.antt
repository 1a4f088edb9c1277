-- No public clause cites this module: the laws of canonical order that `Ord` asks for. It is total, and equal exactly on
-- equal names.
use Rattle.std.specs.Prelude.{◌≡◌, List, reverse, nat_eq}
use Rattle.std.proofs.Common.{sym, ◌∙◌, ap, subst}
use Rattle.std.specs.declared.cmp.Ordering.TheVariants.{Equal}
use Rattle.std.specs.Bool.{Decides}
use Rattle.std.specs.Ordering.{eq_by_cmp, is_eq, as_partial_cmp}
use Rattle.std.specs.Cmp.{IsTotalOrder, IsPartialOrder, on_total, partial_order_from_total, partial_order_from_own_ties}
use Rattle.std.specs.Cmp.Lexicographic.{lists_total, nat_list_cmp_total, pointwise, pointwise_decides, bytes_decides}
use Rattle.std.specs.FinMap.{slice_cmp-IsAntisymmetric, nat_cmp-IsAntisymmetric}
use Rattle.std.proofs.lemmas.Cmp.{tied_itself}
use Rattle.std.proofs.lemmas.Bool.Decides.{same_from_decides}
use Rattle.std.proofs.lemmas.List.{reverse-reverse}
use Rattle.facts.proofs.Orderings.{equal_from}
use Rattle.dname.specs.Name.{Label, canonical_cmp}

-- one of two names comes first, or they are equal; and what comes before comes before all that follows
pub canonical_total : IsTotalOrder canonical_cmp
canonical_total = on_total reverse (lists_total nat_list_cmp_total)

-- names that tie are equal
pub canonical_equal : (x y : List Label) → canonical_cmp x y ≡ Equal → x ≡ y
canonical_equal x y tie =
    sym (reverse-reverse x)
    ∙ ap reverse (slice_cmp-IsAntisymmetric (slice_cmp-IsAntisymmetric nat_cmp-IsAntisymmetric) (reverse x) (reverse y) tie)
    ∙ reverse-reverse y

pub canonical_same : (x y : List Label) → x ≡ y → canonical_cmp x y ≡ Equal
canonical_same x y same = subst (λ z. canonical_cmp x z ≡ Equal) same (tied_itself canonical_total x)

cmp_decides : (x y : List Label) → Decides (eq_by_cmp canonical_cmp x y) (x ≡ y)
cmp_decides x y = (λ h. canonical_equal x y (equal_from (canonical_cmp x y) h), λ same. ap is_eq (canonical_same x y same))

-- `==` is that tie
pub canonical_ties : (x y : List Label) → pointwise (pointwise nat_eq) x y ≡ eq_by_cmp canonical_cmp x y
canonical_ties x y = same_from_decides _ _ (pointwise_decides bytes_decides x y) (cmp_decides x y)

pub canonical_partial : IsPartialOrder (pointwise (pointwise nat_eq)) (as_partial_cmp canonical_cmp)
canonical_partial = partial_order_from_own_ties (partial_order_from_total canonical_total) canonical_ties
