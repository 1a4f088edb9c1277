-- Arcs over a total order in which only equal values tie.
use Rattle.std.proofs.Common.{◌≡◌, ◌≢◌, ◌↔◌, IsTrue, ◌⊎◌, arith}
use Rattle.std.specs.declared.cmp.Ordering.{Ordering}
use Rattle.std.specs.declared.cmp.Ordering.TheVariants.{Less}
use Rattle.std.specs.Cmp.{IsTotalOrder}
use Rattle.std.specs.FinMap.{IsAntisymmetric}
use Rattle.std.proofs.lemmas.Grind.{common_steps}
use Rattle.dname.specs.Arc.{arc_has, IsInside}

module _ {A : Type 0} (cmp : A → A → Ordering) (total : IsTotalOrder cmp) where
  pub not_before_itself : (a : A) → cmp a a ≡ Less → ⊥
  not_before_itself a less = grind (arith, common_steps, total)

  pub not_both_ways : (a b : A) → cmp a b ≡ Less → cmp b a ≡ Less → ⊥
  not_both_ways a b less less' = not_before_itself a (total.trans a b a less less')

  pub no_end_inside : (a b : A) → (IsInside cmp a b a → ⊥) × (IsInside cmp a b b → ⊥)
  no_end_inside a b = grind (arith, common_steps, total)

  module _ (ties : IsAntisymmetric cmp) where
    pub before_or_after : (a b : A) → a ≢ b → (cmp a b ≡ Less) ⊎ (cmp b a ≡ Less)
    before_or_after a b apart = grind (arith, common_steps, total, ties)

    pub whole_ring : (a x : A) → x ≢ a → IsInside cmp a a x
    whole_ring a x apart = grind (arith, common_steps, total, ties)

    pub inside_arc : (a b x : A) → IsInside cmp a b x ↔ (IsTrue (arc_has cmp a b x) × (x ≢ a))
    inside_arc a b x = grind (arith, common_steps, total, ties)

    pub left_of_inside : (a b x y : A) → IsInside cmp a b x → cmp y x ≡ Less → (IsInside cmp a b y → ⊥) → (cmp a x ≡ Less) × (cmp a y ≢ Less)
    left_of_inside a b x y inside less out = grind (arith, common_steps, total, ties)

    pub right_of_inside : (a b x y : A) → IsInside cmp a b x → cmp x y ≡ Less → (IsInside cmp a b y → ⊥) → (cmp x b ≡ Less) × (cmp y b ≢ Less)
    right_of_inside a b x y inside less out = grind (arith, common_steps, total, ties)
