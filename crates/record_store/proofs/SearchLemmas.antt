-- What a search by name finds in a list whose names don't fall.
use Rattle.std.proofs.Common.{◌≡◌, ℕ, ◌<◌, ◌≤◌, ◌⊎◌, inl, inr, true, false, true≢false, List, length, get_or, Contains, refl, sym, ◌∙◌, ap, subst, arith}
use Rattle.std.specs.List.{AllPairs, prefix_len}
use Rattle.std.specs.List.Sorted.{IsPartitionedBy}
use Rattle.std.specs.Ordering.{is_lt, is_gt}
use Rattle.std.specs.declared.cmp.Ordering.{Ordering}
use Rattle.std.specs.declared.cmp.Ordering.TheVariants.{Less, Equal, Greater}
use Rattle.std.proofs.lemmas.Bool.{cases_lt}
use Rattle.std.proofs.lemmas.Cmp.{upto}
use Rattle.std.proofs.lemmas.Grind.{common_steps}
use Rattle.std.proofs.lemmas.List.{get_or_read}
use Rattle.std.proofs.lemmas.List.Sums.{prefix_len_passes, prefix_len_stops}
use Rattle.dname.specs.Name.{Label, canonical_cmp}
use Rattle.dname.specs.Tests.{same_name}
use Rattle.dname.specs.Order.{canonical_total, canonical_equal, canonical_same}
use Rattle.dname.proofs.SameLemmas.{name_itself, same_names}
use Rattle.ordered_list.specs.Order.{IsInOrder}
use Rattle.zone_chains.specs.Zone.{OneZone}
use Rattle.record_store.specs.Ranks.{apex_cmp}

-- the test of names
pub names_differ : (x y : List Label) → false ≡ same_name x y → x ≡ y → ⊥
names_differ x y test same = true≢false (sym (same_names x y same) ∙ sym test)

pub read_alike : {X : Type 0} (xs : List X) (n : ℕ) (x y : X) → n < length xs → x ≡ get_or xs n x → y ≡ get_or xs n y → x ≡ y
read_alike xs n x y within is are = get_or_read xs n x within is y ∙ sym are

same_is_not_less : (x y : List Label) → x ≡ y → is_lt (canonical_cmp x y) ≡ true → ⊥
same_is_not_less x y same less = true≢false (sym less ∙ ap is_lt (canonical_same x y same))

-- a name that isn't below another, and not above what it is equal to
between : (x y k : List Label) → is_lt (canonical_cmp x k) ≡ false → is_gt (canonical_cmp x y) ≡ false → y ≡ k → x ≡ k
between x y k not_below not_above same = canonical_equal x k (by (canonical_cmp x k) not_below (subst (λ z. is_gt (canonical_cmp x z) ≡ false) same not_above))
  where
    by : (o : Ordering) → is_lt o ≡ false → is_gt o ≡ false → o ≡ Equal
    by Less h h' = absurd (true≢false h)
    by Equal h h' = refl
    by Greater h h' = absurd (true≢false h')

not_above_is_below : (x y k : List Label) → is_gt (canonical_cmp x y) ≡ false → is_lt (canonical_cmp y k) ≡ true → is_lt (canonical_cmp x k) ≡ true
not_above_is_below x y k upto below = grind (arith, common_steps, canonical_total)

module _ {X : Type 0} (name : X → List Label) where
  -- no name is above one that comes later
  abbrev pub Rises : List X → Type 0
  Rises xs = AllPairs (λ x y. is_gt (canonical_cmp (name x) (name y)) ≡ false) xs

  pub names_below_first : (key : List Label) (xs : List X) → Rises xs → IsPartitionedBy (λ x. is_lt (canonical_cmp (name x) key)) xs
  names_below_first key xs rises i j d le within below = by (cases_lt i j)
    where
      by : (i < j) ⊎ (j ≤ i) → is_lt (canonical_cmp (name (get_or xs i d)) key) ≡ true
      by (inl before) = not_above_is_below (name (get_or xs i d)) (name (get_or xs j d)) key (rises i j d before within) below
      by (inr from) = let same : i ≡ j = omega arith in ap (λ k. is_lt (canonical_cmp (name (get_or xs k d)) key)) same ∙ below

  module _ (key : List Label) (xs : List X) (n : ℕ) (found : n ≡ prefix_len (λ x. is_lt (canonical_cmp (name x) key)) xs) where
    -- none of the first ones has the name
    not_before : (x : X) → (has : Contains xs x) → name x ≡ key → has.0 < n → ⊥
    not_before x has same before =
        same_is_not_less (name x) key same
        (subst (λ z. is_lt (canonical_cmp (name z) key) ≡ true) has.2 (prefix_len_passes (λ z. is_lt (canonical_cmp (name z) key)) xs has.0 x (omega arith)))

    pub none_past : length xs ≤ n → (x : X) → Contains xs x → name x ≡ key → ⊥
    none_past past x has same = not_before x has same (omega (arith, has.1))

    -- the first of those that aren't below has the name, if any has
    pub first_has : Rises xs → n < length xs → (y : X) → y ≡ get_or xs n y → (x : X) → Contains xs x → name x ≡ key → name y ≡ key
    first_has rises within y is x has same = by (cases_lt has.0 n) (cases_lt n has.0)
      where
        y_here : y ≡ get_or xs n x
        y_here = get_or_read xs n y within is x

        not_below : is_lt (canonical_cmp (name y) key) ≡ false
        not_below =
            ap (λ z. is_lt (canonical_cmp (name z) key)) (y_here ∙ ap (λ k. get_or xs k x) found)
            ∙ prefix_len_stops (λ z. is_lt (canonical_cmp (name z) key)) xs x (omega arith)

        by : (has.0 < n) ⊎ (n ≤ has.0) → (n < has.0) ⊎ (has.0 ≤ n) → name y ≡ key
        by (inl before) other = absurd (not_before x has same before)
        by (inr from) (inl behind) =
            between (name y) (name x) key not_below
            (subst (λ z. is_gt (canonical_cmp (name z) (name x)) ≡ false) (sym y_here) (subst (λ z. is_gt (canonical_cmp (name (get_or xs n x)) (name z)) ≡ false) has.2 (rises n has.0 x behind has.1))) same
        by (inr from) (inr upto') = let here : n ≡ has.0 = omega arith in ap name (y_here ∙ (ap (λ k. get_or xs k x) here ∙ has.2)) ∙ same

-- ---- the two lists

pub zones_rise : (zones : List OneZone) → IsInOrder apex_cmp zones → Rises (λ zone. zone.apex) zones
zones_rise zones order i j d before within = ap is_gt (order i j d before within)
