-- The next value of a list on the ring of an order, and arcs that have none inside.
use Rattle.std.proofs.Common.{◌≡◌, ◌≢◌, ℕ, zero, suc, ◌<◌, ◌≤◌, ◌⊎◌, inl, inr, ⊎_elim, ◌↔◌, Bool, true, false, List, length, get_or, refl, sym, ◌∙◌, ap, subst, arith}
use Rattle.std.specs.Prelude.{not, ◌||◌, ◌==◌}
use Rattle.std.specs.Bool.{Decides}
use Rattle.std.specs.List.{Contains}
use Rattle.std.specs.List.Sorted.{IsSortedBy}
use Rattle.std.specs.Ordering.{is_lt, is_le}
use Rattle.std.proofs.lemmas.Bool.{false≢true, cases_lt, cases_Bool}
use Rattle.std.proofs.lemmas.Bool.Decides.{not_from_Decides, Decides-or, Decides-not}
use Rattle.std.proofs.lemmas.List.{get_or_default}
use Rattle.std.proofs.lemmas.List.Elements.{Contains-get_or}
use Rattle.std.proofs.lemmas.List.Sorted.{ranks_by, sorted_far}
use Rattle.std.specs.declared.cmp.Ordering.{Ordering}
use Rattle.std.specs.declared.cmp.Ordering.TheVariants.{Less}
use Rattle.std.specs.Cmp.{IsTotalOrder}
use Rattle.std.specs.FinMap.{IsAntisymmetric}
use Rattle.std.proofs.lemmas.Grind.{common_steps}
use Rattle.dname.specs.Arc.{IsInside, arc_has}
use Rattle.dname.proofs.ArcLemmas.{inside_arc, whole_ring, no_end_inside}
use Rattle.zone_index.proofs.SearchLemmas.{IsUpto}

module _ {K : Type 0} (cmp : K → K → Ordering) (total : IsTotalOrder cmp) (ties : IsAntisymmetric cmp) where
  -- where an arc has a value inside that isn't before the next one, it has the next one inside
  next_inside : (a end next value : K) → next ≢ a → IsInside cmp a end value → (IsInside cmp a next value → ⊥) → IsInside cmp a end next
  next_inside a end next value apart inside first = grind (arith, common_steps, total, ties)

  -- another value that isn't before the next one ends an arc that has the next one inside
  next_within : (a next end : K) → next ≢ a → end ≢ next → (IsInside cmp a next end → ⊥) → IsInside cmp a end next
  next_within a next end apart other first = grind (arith, common_steps, total, ties)

  -- so only the next one ends an arc that has it not inside
  pub one_next : (a next end : K) → ((x : K) → (x ≡ next) ⊎ (x ≢ next)) → (IsInside cmp a next end → ⊥) → (IsInside cmp a end next → ⊥) → end ≡ next
  one_next a next end either first last = ⊎_elim
      (λ (same : end ≡ next). same)
      (λ (other : end ≢ next). absurd (⊎_elim
      (λ (at : a ≡ next). first (subst (λ n. IsInside cmp a n end) at (whole_ring cmp total ties a end (λ e. other (e ∙ at)))))
      (λ (apart : a ≢ next). last (next_within a next end (λ e. apart (sym e)) other first))
      (either a)))
      (either end)

  -- behind a, what isn't above the next value isn't inside the arc to it
  none_up_to : (a next value : K) → cmp a next ≡ Less → (cmp a value ≢ Less) ⊎ (cmp value next ≢ Less) → IsInside cmp a next value → ⊥
  none_up_to a next value above out inside = grind (arith, common_steps, total, ties)

  -- over the end of the order: all values are up to a, and none is before the first
  none_over_end : (a first value : K) → cmp a first ≢ Less → cmp a value ≢ Less → cmp value first ≢ Less → IsInside cmp a first value → ⊥
  none_over_end a first value above upto least inside = grind (arith, common_steps, total, ties)

  not_above : (x a : K) → is_le (cmp x a) ≡ true → cmp a x ≢ Less
  not_above x a le = λ less. grind (arith, common_steps, total, ties)

  is_above : (x a : K) → is_le (cmp x a) ≡ false → cmp a x ≡ Less
  is_above x a le = grind (arith, common_steps, total, ties)

  inside_apart : (a end value : K) → IsInside cmp a end value → value ≢ a
  inside_apart a end value inside = λ same. (no_end_inside cmp total a end).0 (subst (IsInside cmp a end) same inside)

  no_less : (x y : K) → is_lt (cmp x y) ≡ false → cmp x y ≢ Less
  no_less x y low less = false≢true (sym low ∙ ap is_lt less)

  -- ---- lists

  module _ {X : Type 0} (key : X → K) (xs : List X) where
    -- the value is in the list, and none of the list is inside the arc to it
    pub record IsNext (a next : K) : Type 0 where
      pub there : (x : X) × Contains xs x × (key x ≡ next)
      pub none : (x : X) → Contains xs x → IsInside cmp a next (key x) → ⊥

    -- a value that is the next one on the ring tells whether an arc has any of the list inside
    none_inside : (a next end : K) → IsNext a next → ((x : X) → Contains xs x → IsInside cmp a end (key x) → ⊥) ↔ (next ≢ a → IsInside cmp a end next → ⊥)
    none_inside a next end is = (
      λ none apart inside. none is.there.0 is.there.1 (subst (IsInside cmp a end) (sym is.there.2) inside),
      λ out x has inside.
          let first = is.none x has in
          let apart = inside_apart a end (key x) inside in
          let other : next ≢ a = λ same. first (subst (λ n. IsInside cmp a n (key x)) (sym same) (whole_ring cmp total ties a (key x) apart)) in
          out other (next_inside a end next (key x) other inside first),
    )

    module _ (sorted : IsSortedBy (λ x y. is_lt (cmp (key x) (key y))) xs) (a : K) (upto : ℕ) (point : IsUpto (λ x. cmp (key x) a) xs upto) where
      low : (k : ℕ) (d : X) → k < upto → cmp a (key (get_or xs k d)) ≢ Less
      low k d lt = not_above (key (get_or xs k d)) a (point.0 k d (omega arith) lt)

      high : (k : ℕ) (d : X) → upto ≤ k → k < length xs → cmp a (key (get_or xs k d)) ≡ Less
      high k d le lt = is_above (key (get_or xs k d)) a (point.1 k d le lt)

      later : (i j : ℕ) (d : X) → i ≤ j → j < length xs → cmp (key (get_or xs j d)) (key (get_or xs i d)) ≢ Less
      later i j d le lt = no_less _ _ (sorted_far (λ x y. is_lt (cmp (key x) (key y))) (ranks_by total key) xs sorted i j d le lt)

      -- the one behind them is the next
      next_behind : (d : X) → upto < length xs → IsNext a (key (get_or xs upto d))
      next_behind d here = record {
        there = (get_or xs upto d, Contains-get_or xs upto d here, refl);
        none = λ x has inside.
            let is = get_or_default xs has.0 x d has.1 in
            none_up_to a (key (get_or xs upto d)) (key (get_or xs has.0 d)) (high upto d (omega arith) here) (⊎_elim
            (λ (less : has.0 < upto). inl (low has.0 d less))
            (λ (le : upto ≤ has.0). inr (later upto has.0 d le has.1))
            (cases_lt has.0 upto))
            (subst (λ y. IsInside cmp a (key (get_or xs upto d)) (key y)) (sym has.2 ∙ is) inside);
      }

      -- where there is none behind them, the first of all is
      next_first : (d : X) → length xs ≤ upto → 0 < length xs → IsNext a (key (get_or xs 0 d))
      next_first d long some = record {
        there = (get_or xs 0 d, Contains-get_or xs 0 d some, refl);
        none = λ x has inside.
            let is = get_or_default xs has.0 x d has.1 in
            none_over_end a (key (get_or xs 0 d)) (key (get_or xs has.0 d)) (low 0 d (omega (arith, long, some))) (low has.0 d (omega (arith, long, has.1))) (later 0 has.0 d (omega arith) has.1)
            (subst (λ y. IsInside cmp a (key (get_or xs 0 d)) (key y)) (sym has.2 ∙ is) inside);
      }

      -- either of them stands where the search tells
      pub next_at : (d : X) (at : ℕ) → 0 < length xs → (upto < length xs → at ≡ upto) → (length xs ≤ upto → at ≡ 0) → IsNext a (key (get_or xs at d))
      next_at d at some within past = ⊎_elim
          (λ (less : upto < length xs). subst (λ n. IsNext a (key (get_or xs n d))) (sym (within less)) (next_behind d less))
          (λ (long : length xs ≤ upto). subst (λ n. IsNext a (key (get_or xs n d))) (sym (past long)) (next_first d long some))
          (cases_lt upto (length xs))

      -- so an arc from a has none inside where it ends at or before the next
      pub none_inside_by : (d : X) (at : ℕ) (end : K) → 0 < length xs → (upto < length xs → at ≡ upto) → (length xs ≤ upto → at ≡ 0) → (same : Bool) → Decides same (key (get_or xs at d) ≡ a) → (arc : Bool) → arc ≡ arc_has cmp a end (key (get_or xs at d)) → (same || not arc ≡ true) ↔ ((x : X) → Contains xs x → IsInside cmp a end (key x) → ⊥)
      none_inside_by d at end some within past same told arc has =
          let next : IsNext a (key (get_or xs at d)) = next_at d at some within past in
          let tells = none_inside a (key (get_or xs at d)) end next in
          let inside = inside_arc cmp total ties a end (key (get_or xs at d)) in
          let either = Decides-or same (not arc) told (Decides-not {P = arc ≡ true} arc (λ e. e, λ e. e)) in (
            λ passes. tells.1 (λ apart in'. ⊎_elim apart (λ out. out (has ∙ (inside.0 in').0)) (either.0 passes)),
            λ none. ⊎_elim
                (λ (t : same ≡ true). either.1 (inl (told.0 t)))
                (λ (f : same ≡ false). either.1 (inr (λ t.
                let apart = not_from_Decides same told f in tells.0 none apart (inside.1 (sym has ∙ t, apart)))))
                (cases_Bool same),
          )

-- ---- what a test told, taken apart

pub or_then : {P : Type 0} (same out : Bool) → same ≡ true → (same || out ≡ true) ↔ P → (same ≡ true) ↔ P
or_then true out t both = both
or_then false out t both = absurd (false≢true t)

pub or_else : {P : Type 0} (same out : Bool) → same ≡ false → (same || out ≡ true) ↔ P → (out ≡ true) ↔ P
or_else true out t both = absurd (false≢true (sym t))
or_else false out t both = both

pub some_left : (n : ℕ) → (n == 0) ≡ false → 0 < n
some_left zero e = absurd (false≢true (sym e))
some_left (suc n) e = omega arith
