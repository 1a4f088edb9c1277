-- Whether a value is in a list that an order sorts, by the last one that isn't behind it.
use Rattle.std.proofs.Common.{◌≡◌, ℕ, ◌-◌, ◌<◌, ◌≤◌, ◌↔◌, false, List, length, get_or, sym, ◌∙◌, ap, subst, arith, ⊎_elim}
use Rattle.std.specs.List.{Contains}
use Rattle.std.specs.List.Sorted.{IsSortedBy}
use Rattle.std.specs.Ordering.{is_lt, is_le}
use Rattle.std.specs.declared.cmp.Ordering.{Ordering}
use Rattle.std.specs.Cmp.{IsTotalOrder}
use Rattle.std.specs.FinMap.{IsAntisymmetric}
use Rattle.std.proofs.lemmas.Bool.{cases_lt, false≢true}
use Rattle.std.proofs.lemmas.Cmp.{tied_itself}
use Rattle.std.proofs.lemmas.List.{get_or_default}
use Rattle.std.proofs.lemmas.List.Sorted.{ranks_by, sorted_far}
use Rattle.zone_index.proofs.SearchLemmas.{IsUpto, tied_from}

module _ {K X : Type 0} (cmp : K → K → Ordering) (total : IsTotalOrder cmp) (ties : IsAntisymmetric cmp) (key : X → K) (xs : List X) (sorted : IsSortedBy (λ x y. is_lt (cmp (key x) (key y))) xs) (k : K) (upto : ℕ) (point : IsUpto (λ x. cmp (key x) k) xs upto) where
  -- it stands among those that aren't behind it
  in_front : (x : X) (at : ℕ) → at < length xs → get_or xs at x ≡ x → key x ≡ k → at < upto
  in_front x at lt is same = ⊎_elim
      (λ (less : at < upto). less)
      (λ (le : upto ≤ at). absurd (false≢true (sym (point.1 at x le lt) ∙ ap is_le (ap (λ y. cmp (key y) k) is ∙ ap (λ j. cmp j k) same ∙ tied_itself total k))))
      (cases_lt at upto)

  pub has_none : (0 < upto → ⊥) → (x : X) → Contains xs x → key x ≡ k → ⊥
  has_none none x has same = none (omega (arith, in_front x has.0 has.1 has.2 same))

  pub has_last : upto ≤ length xs → 0 < upto → (last : X) → last ≡ get_or xs (upto - 1) last → ((x : X) × Contains xs x × (key x ≡ k)) ↔ (key last ≡ k)
  has_last bound some last is = (
    λ has.
        let x = has.0 in
        let less = in_front x has.1.0 has.1.1 has.1.2 has.2 in
        let at_x : last ≡ get_or xs (upto - 1) x = is ∙ get_or_default xs (upto - 1) last x (omega (arith, some, bound)) in
        let later = sorted_far (λ a b. is_lt (cmp (key a) (key b))) (ranks_by total key) xs sorted has.1.0 (upto - 1) x (omega (arith, less)) (omega (arith, some, bound)) in
        let low = subst (λ j. is_lt (cmp (key (get_or xs (upto - 1) x)) j) ≡ false) (ap key has.1.2 ∙ has.2) later in
        ap key at_x ∙ ties (key (get_or xs (upto - 1) x)) k (tied_from (cmp (key (get_or xs (upto - 1) x)) k) low (point.0 (upto - 1) x (omega arith) (omega (arith, some)))),
    λ same. (last, (upto - 1, omega (arith, some, bound), sym is), same),
  )
