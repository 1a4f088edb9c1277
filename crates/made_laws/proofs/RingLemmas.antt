-- Values that are numbered in an order: which stand inside the arc from one to the next.
use Rattle.std.proofs.Common.{◌≡◌, ℕ, suc, ◌<◌, ◌≤◌, inl, inr, ⊎_elim, subst, arith}
use Rattle.std.specs.declared.cmp.Ordering.{Ordering}
use Rattle.std.specs.declared.cmp.Ordering.TheVariants.{Less}
use Rattle.std.specs.Cmp.{IsTotalOrder}
use Rattle.std.proofs.lemmas.Bool.{cases_lt}
use Rattle.dname.specs.Arc.{IsInside}
use Rattle.dname.proofs.ArcLemmas.{not_before_itself, not_both_ways}

module _ {A : Type 0} (cmp : A → A → Ordering) (total : IsTotalOrder cmp) (value : ℕ → A) (last : ℕ) (rise : (i j : ℕ) → i < j → j ≤ last → cmp (value i) (value j) ≡ Less) where
  not_later : (i j : ℕ) → i ≤ j → j ≤ last → cmp (value j) (value i) ≡ Less → ⊥
  not_later i j least within less = ⊎_elim
      (λ (before : i < j). not_both_ways cmp total (value i) (value j) (rise i j before within) less)
      (λ (after : j ≤ i). let same : i ≡ j = omega (arith, least, after) in not_before_itself cmp total (value j) (subst (λ k. cmp (value j) (value k) ≡ Less) same less))
      (cases_lt i j)

  -- each value has one number
  pub one_number : (i j : ℕ) → i ≤ last → j ≤ last → value i ≡ value j → i ≡ j
  one_number i j small small' same = ⊎_elim
      (λ (less : i < j). absurd (not_before_itself cmp total (value j) (subst (λ v. cmp v (value j) ≡ Less) same (rise i j less small'))))
      (λ (least : j ≤ i). ⊎_elim
      (λ (more : j < i). absurd (not_before_itself cmp total (value j) (subst (λ v. cmp (value j) v ≡ Less) same (rise j i more small))))
      (λ (most : i ≤ j). omega (arith, least, most))
      (cases_lt j i))
      (cases_lt i j)

  -- between one and the next stands none
  pub none_before_next : (k j : ℕ) → k < last → j ≤ last → IsInside cmp (value k) (value (suc k)) (value j) → ⊥
  none_before_next k j short small (inl inside) = ⊎_elim
      (λ (less : k < j). not_later (suc k) j (omega (arith, less)) small inside.2)
      (λ (least : j ≤ k). not_later j k least (omega (arith, short)) inside.1)
      (cases_lt k j)
  none_before_next k j short small (inr over) = over.0 (rise k (suc k) (omega arith) (omega (arith, short)))

  -- and from the last to the first stands none
  pub none_after_last : (j : ℕ) → j ≤ last → IsInside cmp (value last) (value 0) (value j) → ⊥
  none_after_last j small (inl inside) = not_later 0 last (omega arith) (omega arith) inside.0
  none_after_last j small (inr (over, apart, inl after)) = not_later j last small (omega arith) after
  none_after_last j small (inr (over, apart, inr before)) = not_later 0 j (omega arith) small before
