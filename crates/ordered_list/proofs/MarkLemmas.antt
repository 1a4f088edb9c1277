-- Marks agree with the order.
use Rattle.std.proofs.Common.{◌≡◌, ℕ, ◌<◌, false, List, inl, inr, sym, ap, arith}
use Rattle.std.specs.Cmp.{IsTotalOrder}
use Rattle.std.specs.Ordering.{is_lt, is_le, is_eq}
use Rattle.std.specs.declared.cmp.Ordering.{Ordering}
use Rattle.std.specs.declared.cmp.Ordering.TheVariants.{Less}
use Rattle.std.proofs.lemmas.Grind.{common_steps}
use Rattle.std.proofs.lemmas.Bool.{cases_lt}
use Rattle.page_list.specs.Marks.{PartsAtMark}
use Rattle.ordered_list.specs.Order.{IsInOrder}
use Rattle.ordered_list.proofs.PlaceLemmas.{below_first, upto_first}

module _ {X : Type 0} (cmp : X → X → Ordering) (total : IsTotalOrder cmp) (mark : X → ℕ) (rise : (one other : X) → mark one < mark other → cmp one other ≡ Less) where
  not_back : (one other : X) → cmp one other ≡ Less → is_lt (cmp other one) ≡ false
  not_back one other less = grind (arith, common_steps, total)

  -- those that rank below an entry, by its mark
  pub below_parts : (like : X) (xs : List X) → IsInOrder cmp xs → PartsAtMark mark (mark like) (λ x. is_lt (cmp x like)) xs
  below_parts like xs order = record {
    first = below_first cmp total like xs order;
    lesser = λ x has less. ap is_lt (rise x like less);
    greater = λ x has more. not_back like x (rise like x more);
  }

  not_upto : (one other : X) → cmp one other ≡ Less → is_le (cmp other one) ≡ false
  not_upto one other less = grind (arith, common_steps, total)

  -- those that don't rank above an entry, by its mark
  pub upto_parts : (like : X) (xs : List X) → IsInOrder cmp xs → PartsAtMark mark (mark like) (λ x. is_le (cmp x like)) xs
  upto_parts like xs order = record {
    first = upto_first cmp total like xs order;
    lesser = λ x has less. ap is_le (rise x like less);
    greater = λ x has more. not_upto like x (rise like x more);
  }

  not_level : (one other : X) → cmp one other ≡ Less → is_eq (cmp other one) ≡ false
  not_level one other less = grind (arith, common_steps, total)

  -- entries of different marks don't rank equal
  pub other_mark : (one other : X) → (mark one ≡ mark other → ⊥) → false ≡ is_eq (cmp one other)
  other_mark one other apart = elim (cases_lt (mark one) (mark other)) [
    | inl less ↦ sym (ap is_eq (rise one other less))
    | inr past ↦ elim (cases_lt (mark other) (mark one)) [
      | inl more ↦ sym (not_level other one (rise other one more))
      | inr same ↦ absurd (apart (omega arith))
    ]
  ]
