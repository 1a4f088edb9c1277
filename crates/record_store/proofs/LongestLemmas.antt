-- The longest of some zones that a name is at or below.
use Rattle.std.proofs.Common.{◌≡◌, ℕ, ◌-◌, ◌<◌, ◌≤◌, ◌⊎◌, inl, inr, Bool, true, false, true≢false, cond, List, [], ◌∷◌, ◌++◌, length, get_or, Contains, MatchOption, Option, find, Some, None, refl, sym, ◌∙◌, ap, subst, arith}
use Rattle.std.specs.List.{prefix_len}
use Rattle.std.specs.List.Sorted.{IsPartitionedBy}
use Rattle.std.specs.Ordering.{is_le}
use Rattle.std.specs.declared.cmp.Ordering.TheVariants.{Less, Equal}
use Rattle.std.proofs.lemmas.Bool.{cases_lt}
use Rattle.std.proofs.lemmas.Grind.{common_steps}
use Rattle.std.proofs.lemmas.List.{get_or_read, length-append}
use Rattle.std.proofs.lemmas.List.Sums.{prefix_len-le-length, prefix_len_passes, prefix_len_stops}
use Rattle.dname.specs.Name.{Label, IsUnder, IsCommon, canonical_cmp}
use Rattle.dname.specs.Order.{canonical_total, canonical_equal, canonical_same}
use Rattle.dname.specs.Tests.{same_name}
use Rattle.dname.proofs.TogetherLemmas.{above_is_first, stands_together}
use Rattle.cache_meaning.specs.Zones.{self_and_above}
use Rattle.cache_meaning.proofs.HeldLemmas.{found_here}
use Rattle.held_laws.proofs.ListLemmas.{found, is_found}
use Rattle.dname.proofs.SameLemmas.{name_equal, name_itself}
use Rattle.ordered_list.specs.Order.{IsInOrder}
use Rattle.ordered_list.proofs.OrderLemmas.{partitioned}
use Rattle.zone_chains.specs.Zone.{OneZone}
use Rattle.record_store.specs.LookUp.{is_apex, is_upto, first_apex, IsFirstZone, IsLastUpTo}
use Rattle.record_store.specs.Ranks.{apex_cmp}
use Rattle.record_store.proofs.SearchLemmas.{names_differ}

-- ---- a name and the names above it

no_longer : (label : Label) (front rest : List Label) → IsUnder rest (label ∷ front ++ rest) → ⊥
no_longer label front rest under = omega (arith, ap length under.1, length-append under.0 (label ∷ front ++ rest), length-append front rest)

module _ (test : List Label → Bool) where
  -- where each name above that passes is above the rest, the search may begin at the rest
  pub begins_at : (front rest : List Label) → ((above : List Label) → IsUnder (front ++ rest) above → test above ≡ true → IsUnder rest above) → find test (self_and_above (front ++ rest)) ≡ find test (self_and_above rest)
  begins_at [] rest each = refl
  begins_at (label ∷ front) rest each =
      by (test (label ∷ front ++ rest)) refl
      (begins_at front rest (λ above under is. each above (label ∷ under.0, ap (λ (l : List Label). label ∷ l) under.1) is))
    where
      by : (b : Bool) → test (label ∷ front ++ rest) ≡ b → find test (self_and_above (front ++ rest)) ≡ find test (self_and_above rest) → cond b (Some (label ∷ front ++ rest)) (find test (self_and_above (front ++ rest))) ≡ find test (self_and_above rest)
      by true is more = absurd (no_longer label front rest (each (label ∷ front ++ rest) ([], refl) is))
      by false is more = more

  pub none_above : (name : List Label) → ((above : List Label) → IsUnder name above → test above ≡ false) → find test (self_and_above name) ≡ None
  none_above [] none = ap (λ b. cond b (Some []) None) (none [] ([], refl))
  none_above (label ∷ rest) none =
      ap (λ b. cond b (Some (label ∷ rest)) (find test (self_and_above rest))) (none (label ∷ rest) ([], refl))
      ∙ none_above rest (λ above under. none above (label ∷ under.0, ap (λ (l : List Label). label ∷ l) under.1))

-- ---- the order of names

below_upto : (x y name : List Label) → canonical_cmp x y ≡ Less → is_le (canonical_cmp y name) ≡ true → is_le (canonical_cmp x name) ≡ true
below_upto x y name less upto = grind (arith, common_steps, canonical_total)

not_behind : (x y : List Label) → is_le (canonical_cmp x y) ≡ true → canonical_cmp y x ≡ Less → ⊥
not_behind x y upto less = grind (arith, common_steps, canonical_total)

both_ways : (x y : List Label) → is_le (canonical_cmp x y) ≡ true → is_le (canonical_cmp y x) ≡ true → canonical_cmp x y ≡ Equal
both_ways x y upto upto' = grind (arith, common_steps, canonical_total)

-- a name comes at or before those below it
above_upto : (name above : List Label) → IsUnder name above → is_le (canonical_cmp above name) ≡ true
above_upto name above under = by (same_name name above) refl
  where
    by : (b : Bool) → same_name name above ≡ b → is_le (canonical_cmp above name) ≡ true
    by true is = ap is_le (canonical_same above name (sym (name_equal name above is)))
    by false is = ap is_le (above_is_first name above under (names_differ name above (sym is)))

-- ---- the last zone at or before a name

pub upto_first : (name : List Label) (zones : List OneZone) → IsInOrder apex_cmp zones → IsPartitionedBy (is_upto name) zones
upto_first name zones order = partitioned apex_cmp (is_upto name) zones order (λ x y less upto. below_upto x.apex y.apex name less upto)

module _ (zones : List OneZone) (order : IsInOrder apex_cmp zones) (name : List Label) (n : ℕ) (start : n ≡ prefix_len (is_upto name) zones) where
  -- such a zone is among the first ones
  among : (zone : OneZone) (has : Contains zones zone) → is_upto name zone ≡ true → has.0 < n
  among zone has passes = by (cases_lt has.0 n)
    where
      by : (has.0 < n) ⊎ (n ≤ has.0) → has.0 < n
      by (inl before) = before
      by (inr from) =
          let past : prefix_len (is_upto name) zones ≤ has.0 = omega (arith, start) in
          let there : is_upto name (get_or zones has.0 zone) ≡ true = ap (is_upto name) has.2 ∙ passes in
          absurd (true≢false (sym (upto_first name zones order (prefix_len (is_upto name) zones) has.0 zone past has.1 there) ∙ prefix_len_stops (is_upto name) zones zone (omega (arith, past, has.1))))

  pub none_upto : n ≡ 0 → (zone : OneZone) → Contains zones zone → is_upto name zone ≡ false
  none_upto none zone has = by (is_upto name zone) refl
    where
      by : (b : Bool) → is_upto name zone ≡ b → is_upto name zone ≡ false
      by false is = is
      by true is = absurd (omega (arith, none, among zone has is))

  module _ (zone : OneZone) (some : 0 < n) (is_last : zone ≡ get_or zones (n - 1) zone) where
    within : n - 1 < length zones
    within = omega (arith, start, some, prefix_len-le-length (is_upto name) zones)

    behind : (other : OneZone) → Contains zones other → is_upto name other ≡ true → is_upto zone.apex other ≡ true
    behind other has passes = by (cases_lt has.0 (n - 1))
      where
        before_n : has.0 < n
        before_n = among other has passes

        there : get_or zones (n - 1) other ≡ zone
        there = sym (get_or_read zones (n - 1) zone within is_last other)

        by : (has.0 < n - 1) ⊎ (n - 1 ≤ has.0) → is_upto zone.apex other ≡ true
        by (inl before) = ap is_le (subst (λ (z : OneZone). apex_cmp other z ≡ Less) there (subst (λ (z : OneZone). apex_cmp z (get_or zones (n - 1) other) ≡ Less) has.2 (order has.0 (n - 1) other before within)))
        by (inr from) =
            let same : has.0 ≡ n - 1 = omega (arith, from, before_n) in
            ap is_le (canonical_same other.apex zone.apex (ap (λ (z : OneZone). z.apex) (sym has.2 ∙ (ap (λ k. get_or zones k other) same ∙ there))))

    pub is_last_upto : IsLastUpTo zones name zone
    is_last_upto = record {
      listed = (n - 1, within, sym is_last);
      upto = ap (is_upto name) is_last ∙ prefix_len_passes (is_upto name) zones (n - 1) zone (omega (arith, start, some));
      last = behind;
      in_order = order;
    }

-- ---- the longest zone

module _ (zones : List OneZone) (name : List Label) where
  -- a name above that is an apex is that of a listed zone at or before the name
  at_apex : (above : List Label) → IsUnder name above → is_apex zones above ≡ true → (zone : OneZone) × Contains zones zone × (zone.apex ≡ above) × (is_upto name zone ≡ true)
  at_apex above under is =
      let one = found (λ (zone : OneZone). same_name zone.apex above) zones is in
      let same = name_equal one.0.apex above one.2 in
      (one.0, one.1, same, ap (λ l. is_le (canonical_cmp l name)) same ∙ above_upto name above under)

  pub none_is_first : ((zone : OneZone) → Contains zones zone → is_upto name zone ≡ false) → first_apex zones (self_and_above name) ≡ None
  none_is_first none = none_above (is_apex zones) name (λ above under. by above under (is_apex zones above) refl)
    where
      by : (above : List Label) → IsUnder name above → (b : Bool) → is_apex zones above ≡ b → is_apex zones above ≡ false
      by above under false is = is
      by above under true is = let one = at_apex above under is in absurd (true≢false (sym one.3 ∙ none one.0 one.1))

  module _ (last : OneZone) (is_last : IsLastUpTo zones name last) where
    -- the zones that the name is below are those that the last is below too
    below_all : (above : List Label) → IsUnder name above → is_apex zones above ≡ true → IsUnder last.apex above
    below_all above under is =
        let one = at_apex above under is in
        let upto : is_le (canonical_cmp above last.apex) ≡ true = ap (λ l. is_le (canonical_cmp l last.apex)) (sym one.2) ∙ is_last.last one.0 one.1 one.3 in
        stands_together above last.apex name under (not_behind above last.apex upto) (not_behind last.apex name is_last.upto)

    pub last_is_first : (before : List (List Label)) → first_apex zones before ≡ first_apex zones (self_and_above name) → IsUnder name last.apex → IsFirstZone zones before last
    last_is_first before same under = record {
      listed = is_last.listed;
      first =
          same ∙ (ap (λ l. find (is_apex zones) (self_and_above l)) under.1
          ∙ (begins_at (is_apex zones) under.0 last.apex (λ above under' is. below_all above (under'.0, under.1 ∙ under'.1) is)
          ∙ found_here (is_apex zones) last.apex (is_found (λ (zone : OneZone). same_name zone.apex last.apex) zones last is_last.listed (name_itself last.apex))));
      in_order = is_last.in_order;
    }

    module _ (common : List Label) (is : IsCommon name last.apex common) where
      pub first_in_common : first_apex zones (self_and_above name) ≡ first_apex zones (self_and_above common)
      first_in_common =
          ap (λ l. find (is_apex zones) (self_and_above l)) is.first.1
          ∙ begins_at (is_apex zones) is.first.0 common (λ above under' apex.
          let under : IsUnder name above = (under'.0, is.first.1 ∙ under'.1) in is.longest above under (below_all above under apex))

      pub common_is_shorter : (IsUnder name last.apex → ⊥) → length common < length name
      common_is_shorter apart = by is.first.0 is.first.1
        where
          by : (front : List Label) → name ≡ front ++ common → length common < length name
          by [] same =
              let under : IsUnder last.apex name = subst (IsUnder last.apex) (sym same) is.second in
              let tie = canonical_equal last.apex name (both_ways last.apex name is_last.upto (above_upto last.apex name under)) in
              absurd (apart ([], sym tie))
          by (label ∷ front) same = omega (arith, ap length same, length-append front common)

-- the first of the names that is an apex, where others have the same
pub first_also : {F : Type 0} (value : F → OneZone) (zones : List OneZone) (names others : List (List Label)) → first_apex zones names ≡ first_apex zones others → (o : Option F)
    → MatchOption o (first_apex zones others ≡ None) (λ zone. IsFirstZone zones others (value zone)) → MatchOption o (first_apex zones names ≡ None) (λ zone. IsFirstZone zones names (value zone))
first_also value zones names others same None none = same ∙ none
first_also value zones names others same (Some zone) is = record { listed = is.listed; first = same ∙ is.first; in_order = is.in_order }
