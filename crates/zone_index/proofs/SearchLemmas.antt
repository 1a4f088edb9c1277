-- A search in a list along which an ordering doesn't fall.
use Rattle.std.proofs.Common.{◌≡◌, ◌≢◌, ℕ, ◌+◌, ◌-◌, ◌<◌, ◌≤◌, ◌↔◌, Bool, true, false, List, length, take, drop, get_or, refl, sym, ◌∙◌, ap, subst, arith, ⊎_elim}
use Rattle.std.specs.List.{Contains}
use Rattle.std.specs.List.Sorted.{IsPartitionPoint, IsPartitionedBy, IsNonDecreasingBy, IsSorted, IsSortedBy}
use Rattle.std.specs.Fn.{Called, ComparesAs}
use Rattle.std.specs.Cmp.{IsStrictWeakOrder}
use Rattle.std.proofs.lemmas.Fn.{always_returns_same}
use Rattle.std.proofs.lemmas.List.Sorted.{ranks_by}
use denote.Ref.{Bor}
use denote.Param.Members.{Mut}
use Rattle.std.specs.Ordering.{is_lt, is_le, ordering_then, ordering_index, ordering_reverse}
use Rattle.std.specs.declared.cmp.Ordering.{Ordering}
use Rattle.std.specs.declared.cmp.Ordering.TheVariants.{Less, Equal, Greater}
use Rattle.std.specs.Cmp.{IsTotalOrder}
use Rattle.std.proofs.lemmas.Bool.{false≢true, cases_lt}
use Rattle.std.proofs.lemmas.List.{get_or-take, get_or-drop, length-take, length-drop}

-- ---- what is behind doesn't compare lower

-- r compares the later of two values with the earlier, which isn't above it; s and t compare the earlier and the later with a third
abbrev pub Keeps : Ordering → Ordering → Ordering → Type 0
Keeps r s t = is_lt r ≡ false → ordering_index s ≤ ordering_index t

pub record Carries (r s t : Ordering) : Type 0 where
  pub above : r ≡ Greater → s ≢ Less → t ≡ Greater
  pub tied : r ≡ Equal → t ≡ s

at_most_two : (r : Ordering) → ordering_index r ≤ 2
at_most_two Less = omega arith
at_most_two Equal = omega arith
at_most_two Greater = omega arith

-- a value that comes first decides alone
pub front_keeps : (r s t more : Ordering) → Carries r s t → Keeps (ordering_then r more) s t
front_keeps Less s t more c up = absurd (false≢true (sym up))
front_keeps Equal s t more c up = omega (arith, ap ordering_index (c.tied refl))
front_keeps Greater Less t more c up = omega arith
front_keeps Greater Equal t more c up = omega (arith, ap ordering_index (c.above refl (λ e. cc)))
front_keeps Greater Greater t more c up = omega (arith, ap ordering_index (c.above refl (λ e. cc)))

pub keeps : (r s t : Ordering) → Carries r s t → Keeps r s t
keeps Less s t c up = absurd (false≢true (sym up))
keeps Equal s t c up = omega (arith, ap ordering_index (c.tied refl))
keeps Greater Less t c up = omega arith
keeps Greater Equal t c up = omega (arith, ap ordering_index (c.above refl (λ e. cc)))
keeps Greater Greater t c up = omega (arith, ap ordering_index (c.above refl (λ e. cc)))

-- what ties leaves it to what follows
pub then_keeps : (r s t r' s' t' : Ordering) → Carries r s t → Keeps r' s' t' → Keeps (ordering_then r r') (ordering_then s s') (ordering_then t t')
then_keeps Less s t r' s' t' c more up = absurd (false≢true (sym up))
then_keeps Equal Less t r' s' t' c more up = omega arith
then_keeps Equal Equal t r' s' t' c more up = subst (λ o. ordering_index s' ≤ ordering_index (ordering_then o t')) (sym (c.tied refl)) (more up)
then_keeps Equal Greater t r' s' t' c more up = subst (λ o. 2 ≤ ordering_index (ordering_then o t')) (sym (c.tied refl)) (omega arith)
then_keeps Greater Less t r' s' t' c more up = omega arith
then_keeps Greater Equal t r' s' t' c more up = subst (λ o. ordering_index s' ≤ ordering_index (ordering_then o t')) (sym (c.above refl (λ e. cc))) (at_most_two s')
then_keeps Greater Greater t r' s' t' c more up = subst (λ o. 2 ≤ ordering_index (ordering_then o t')) (sym (c.above refl (λ e. cc))) (omega arith)

pub total_carries : {K : Type 0} (R : K → K → Ordering) → IsTotalOrder R → (earlier later x : K) → Carries (R later earlier) (R earlier x) (R later x)
total_carries {K} R o earlier later x = record {
  above = λ gt apart. by (R earlier x) refl gt apart;
  tied = λ tie. o.congr later earlier x tie;
}
  where
    back : R later earlier ≡ Greater → R earlier later ≡ Less
    back gt = o.antisymm earlier later ∙ ap ordering_reverse gt

    by : (s : Ordering) → R earlier x ≡ s → R later earlier ≡ Greater → R earlier x ≢ Less → R later x ≡ Greater
    by Less is gt apart = absurd (apart is)
    by Equal is gt apart = o.antisymm later x ∙ ap ordering_reverse (sym (o.congr earlier x later is) ∙ back gt)
    by Greater is gt apart = o.antisymm later x ∙ ap ordering_reverse (o.trans x earlier later (o.antisymm x earlier ∙ ap ordering_reverse is) (back gt))

-- ---- the two places of a search

lt_index : (o : Ordering) → is_lt o ≡ true → ordering_index o ≤ 0
lt_index Less e = omega arith
lt_index Equal e = absurd (false≢true e)
lt_index Greater e = absurd (false≢true e)

lt_from : (o : Ordering) → ordering_index o ≤ 0 → is_lt o ≡ true
lt_from Less le = refl
lt_from Equal le = absurd (omega (arith, le))
lt_from Greater le = absurd (omega (arith, le))

le_index : (o : Ordering) → is_le o ≡ true → ordering_index o ≤ 1
le_index Less e = omega arith
le_index Equal e = omega arith
le_index Greater e = absurd (false≢true e)

le_from : (o : Ordering) → ordering_index o ≤ 1 → is_le o ≡ true
le_from Less le = refl
le_from Equal le = refl
le_from Greater le = absurd (omega (arith, le))

pub tied_from : (o : Ordering) → is_lt o ≡ false → is_le o ≡ true → o ≡ Equal
tied_from Less l e = absurd (false≢true (sym l))
tied_from Equal l e = refl
tied_from Greater l e = absurd (false≢true e)

module _ {X : Type 0} (versus : X → Ordering) (xs : List X) where
  abbrev pub Rises : Type 0
  Rises = IsNonDecreasingBy (λ x. ordering_index (versus x)) xs

  pub before_parted : Rises → IsPartitionedBy (λ x. is_lt (versus x)) xs
  before_parted up i j d le within passes = lt_from _ (omega (arith, up i j d le within, lt_index _ passes))

  pub upto_parted : Rises → IsPartitionedBy (λ x. is_le (versus x)) xs
  upto_parted up i j d le within passes = le_from _ (omega (arith, up i j d le within, le_index _ passes))

  abbrev pub IsBefore : ℕ → Type 0
  IsBefore from = IsPartitionPoint (λ x. is_lt (versus x) ≡ true) (λ x. is_lt (versus x) ≡ false) xs from

  abbrev pub IsUpto : ℕ → Type 0
  IsUpto upto = IsPartitionPoint (λ x. is_le (versus x) ≡ true) (λ x. is_le (versus x) ≡ false) xs upto

  lt_is_le : (o : Ordering) → is_lt o ≡ true → is_le o ≡ false → ⊥
  lt_is_le Less l e = false≢true (sym e)
  lt_is_le Equal l e = false≢true l
  lt_is_le Greater l e = false≢true l

  pub in_order : (from upto : ℕ) → from ≤ length xs → IsBefore from → IsUpto upto → (d : X) → from ≤ upto
  in_order from upto bound before behind d = ⊎_elim
      (λ (less : upto < from). absurd (lt_is_le (versus (get_or xs upto d)) (before.0 upto d (omega arith) less) (behind.1 upto d (omega arith) (omega (arith, less, bound)))))
      (λ (le : from ≤ upto). le)
      (cases_lt upto from)

  module _ (from upto : ℕ) (bound : upto ≤ length xs) (ordered : from ≤ upto) (before : IsBefore from) (behind : IsUpto upto) where
    -- what is between the two places is what ties
    pub run_has : (x : X) → Contains (take (upto - from) (drop from xs)) x ↔ (Contains xs x × (versus x ≡ Equal))
    run_has x = (λ has. into has.0 has.1 has.2, λ has. back has.0.0 has.0.1 has.0.2 has.1)
      where
        into : (k : ℕ) → k < length (take (upto - from) (drop from xs)) → get_or (take (upto - from) (drop from xs)) k x ≡ x → Contains xs x × (versus x ≡ Equal)
        into k lt is =
            let short : k < upto - from = omega (arith, lt, length-take (upto - from) (drop from xs), length-drop from xs, bound, ordered) in
            let there : get_or xs (from + k) x ≡ x = sym (get_or-drop from xs k x) ∙ sym (get_or-take (upto - from) (drop from xs) k x short) ∙ is in (
              (from + k, omega (arith, short, bound), there),
              subst (λ y. versus y ≡ Equal) there (tied_from (versus (get_or xs (from + k) x)) (before.1 (from + k) x (omega arith) (omega (arith, short, bound))) (behind.0 (from + k) x (omega arith) (omega (arith, short)))),
            )

        back : (k : ℕ) → k < length xs → get_or xs k x ≡ x → versus x ≡ Equal → Contains (take (upto - from) (drop from xs)) x
        back k lt is tie =
            let at : versus (get_or xs k x) ≡ Equal = subst (λ y. versus y ≡ Equal) (sym is) tie in
            let low : from ≤ k = ⊎_elim (λ (less : k < from). absurd (false≢true (ap is_lt (sym at) ∙ before.0 k x (omega arith) less))) (λ (le : from ≤ k). le) (cases_lt k from) in
            let high : k < upto = ⊎_elim (λ (less : k < upto). less) (λ (le : upto ≤ k). absurd (false≢true (sym (behind.1 k x le lt) ∙ ap is_le at))) (cases_lt k upto) in (
              k - from,
              omega (arith, low, high, lt, length-take (upto - from) (drop from xs), length-drop from xs),
              get_or-take (upto - from) (drop from xs) (k - from) x (omega (arith, low, high)) ∙ get_or-drop from xs (k - from) x
                  ∙ ap (λ n. get_or xs n x) {x = from + (k - from)} {y = k} (omega (arith, low)) ∙ is,
            )

-- the order that a sort by a closure makes, where each call of it compares by this order
pub sorted_by : {X F : Type 0} (cmp : X → X → Ordering) → IsTotalOrder cmp → {g : Mut F (Bor X × (Bor X × Unit {0})) Ordering} {f : F} (xs : List X)
    → ((lt : X → X → Bool) → IsStrictWeakOrder lt → ComparesAs g lt f → IsSortedBy lt xs)
    → ((a : Bor X × (Bor X × Unit {0})) (r : Ordering) (f' : F) → Called g f a r f' → (r ≡ cmp a.0.now a.1.0.now) × (f' ≡ f))
    → IsSorted cmp xs
sorted_by cmp total {g = g} {f = f} xs up h = up (λ x y. is_lt (cmp x y)) (ranks_by total (λ y. y))
    (always_returns_same g (λ a r. is_lt r ≡ is_lt (cmp a.0.now a.1.0.now)) f (λ a r f' k. (ap is_lt (h a r f' k).0, (h a r f' k).1)))
