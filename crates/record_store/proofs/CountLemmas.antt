-- How many sets each zone has, where one comes and where one goes.
use Rattle.std.proofs.Common.{◌≡◌, ⊎_elim, ℕ, ◌+◌, ◌-◌, ◌<◌, ◌≤◌, Bool, true, false, true≢false, not, nat_lt, List, [], ◌∷◌, ◌++◌, cond, length, filter, Contains, refl, sym, ◌∙◌, ap, subst, arith}
use Rattle.std.specs.Ordering.{is_lt, is_eq, is_gt}
use Rattle.std.specs.declared.cmp.Ordering.TheVariants.{Less, Equal}
use Rattle.std.proofs.lemmas.Bool.Decides.{Decides-ltb}
use Rattle.std.proofs.lemmas.Cmp.{tied_itself}
use Rattle.std.proofs.lemmas.List.{length-append}
use Rattle.std.proofs.lemmas.List.Elements.{filter-append}
use Rattle.std.proofs.lemmas.List.Kept.{AllPairs-filter}
use Rattle.facts.proofs.Orderings.{equal_from, both_equal}
use Rattle.facts.proofs.Filters.{kept, was_kept}
use Rattle.facts.proofs.Lists.{here}
use Rattle.dname.specs.Name.{Label}
use Rattle.dname.specs.Tests.{same_name}
use Rattle.dname.specs.Order.{canonical_equal, canonical_same}
use Rattle.denial_records.specs.declared.record.Record.{Record}
use Rattle.denial_records.specs.declared.record.Record.TheVariants.{Set, Nsec, Nsec3}
use Rattle.cache_meaning.specs.Held.{zone_of, key_cmp}
use Rattle.dname.proofs.SameLemmas.{name_equal, same_names}
use Rattle.ordered_list.specs.Order.{IsInOrder, IsRank, with_entry, without_entry}
use Rattle.ordered_list.proofs.ChangeLemmas.{with_members, without_members, entry_at_with, entry_at_with_other, entry_at_without, entry_at_without_other}
use Rattle.ordered_list.proofs.OrderLemmas.{with_in_order}
use Rattle.ordered_list.proofs.PlaceLemmas.{parts, others, few_level}
use Rattle.record_store.specs.declared.counts.SetCount.{SetCount}
use Rattle.record_store.specs.Counts.{count_of, count_cmp, counts_total, count_in, count_at, AreCounted, IsRecounted}
use Rattle.record_store.specs.Ranks.{set_cmp, sets_total}
use Rattle.record_store.proofs.MarkLemmas.{key_tied}

-- ---- the list of counts

module _ (counts : List SetCount) (order : IsInOrder count_cmp counts) (each : SetCount) (apex : List Label) (its : each.apex ≡ apex) where
  apart : (other : List Label) → (other ≡ apex → ⊥) → count_cmp each (record { apex = other; count = 0 }) ≡ Equal → ⊥
  apart other differ tie = differ (sym (canonical_equal each.apex other tie) ∙ its)

  pub recounted_with : 0 < each.count → (made : List SetCount) → made ≡ with_entry count_cmp each counts → IsRecounted apex each.count counts made
  recounted_with some made is = subst (IsRecounted apex each.count counts) (sym is) (record {
    its = ap count_in (entry_at_with count_cmp counts_total each counts order (record { apex = apex; count = 0 }) (canonical_same each.apex apex its));
    others = λ other differ. ap count_in (entry_at_with_other count_cmp counts_total each counts order (record { apex = other; count = 0 }) (apart other differ));
    some = λ all x has. ⊎_elim (λ same. subst (λ (e : SetCount). 0 < e.count) (sym same) some) (λ old. all x old.0) ((with_members count_cmp each counts x).0 has);
  })

  pub recounted_without : (made : List SetCount) → made ≡ without_entry count_cmp each counts → IsRecounted apex 0 counts made
  recounted_without made is = subst (IsRecounted apex 0 counts) (sym is) (record {
    its = subst (λ a. count_at a (without_entry count_cmp each counts) ≡ 0) its (ap count_in (entry_at_without count_cmp counts_total each counts));
    others = λ other differ. ap count_in (entry_at_without_other count_cmp counts_total each counts order (record { apex = other; count = 0 }) (apart other differ));
    some = λ all x has. all x ((without_members count_cmp each counts x).0 has).0;
  })

-- ---- the number of a zone's sets

-- sets of one key are of one zone
key_zone : (one other : Record) → key_cmp one other ≡ Equal → zone_of one ≡ zone_of other
key_zone (Set one) (Set other) tie = canonical_equal one.zone other.zone (both_equal _ _ tie).0
key_zone (Set one) (Nsec other) tie = cc
key_zone (Set one) (Nsec3 other) tie = cc
key_zone (Nsec one) (Set other) tie = cc
key_zone (Nsec one) (Nsec other) tie = canonical_equal one.zone other.zone (both_equal _ _ tie).0
key_zone (Nsec one) (Nsec3 other) tie = canonical_equal one.zone other.zone (both_equal _ _ tie).0
key_zone (Nsec3 one) (Set other) tie = cc
key_zone (Nsec3 one) (Nsec other) tie = canonical_equal one.zone other.zone (both_equal _ _ tie).0
key_zone (Nsec3 one) (Nsec3 other) tie = canonical_equal one.zone other.zone (both_equal _ _ tie).0

count_append : (p : Record → Bool) (xs ys : List Record) → length (filter p (xs ++ ys)) ≡ length (filter p xs) + length (filter p ys)
count_append p xs ys = ap length (filter-append p xs ys) ∙ length-append (filter p xs) (filter p ys)

count_first : (p : Record → Bool) (x : Record) (xs : List Record) → length (filter p (x ∷ xs)) ≡ cond (p x) 1 0 + length (filter p xs)
count_first p x xs = elim (p x) as (λ b. length (cond b (x ∷ filter p xs) (filter p xs)) ≡ cond b 1 0 + length (filter p xs)) [ true ↦ omega arith | false ↦ omega arith ]

count_none : (p : Record → Bool) (xs : List Record) → length xs ≡ 0 → length (filter p xs) ≡ 0
count_none p [] none = refl
count_none p (x ∷ xs) none = absurd (omega (arith, none))

count_one : (p : Record → Bool) (xs : List Record) (b : Bool) → length xs ≤ 1 → 0 < length xs → ((x : Record) → Contains xs x → p x ≡ b) → length (filter p xs) ≡ cond b 1 0
count_one p [] b few some are = absurd (omega (arith, some))
count_one p (x ∷ []) b few some are = omega (arith, count_first p x [], ap {B = ℕ} (λ t. cond t 1 0) (are x (here x [])))
count_one p (x ∷ y ∷ xs) b few some are = absurd (omega (arith, few))

module _ (sets : List Record) (order : IsInOrder set_cmp sets) (item : Record) where
  abbrev level : List Record
  level = filter (λ x. is_eq (set_cmp x item)) sets

  level_zone : (apex : List Label) (x : Record) → Contains level x → same_name (zone_of x) apex ≡ same_name (zone_of item) apex
  level_zone apex x has = ap (λ z. same_name z apex) (key_zone x item (key_tied x item (equal_from (set_cmp x item) (was_kept (λ y. is_eq (set_cmp y item)) sets x has).1)))

  level_count : (apex : List Label) → 0 < length level → count_of apex level ≡ cond (same_name (zone_of item) apex) 1 0
  level_count apex some = count_one (λ x. same_name (zone_of x) apex) level (same_name (zone_of item) apex) (few_level set_cmp sets_total item sets order) some (level_zone apex)

  module _ (apex : List Label) where
    abbrev its : Record → Bool
    its x = same_name (zone_of x) apex

    abbrev low : List Record
    low = filter (λ x. is_lt (set_cmp x item)) sets

    abbrev high : List Record
    high = filter (λ x. is_gt (set_cmp x item)) sets

    count_parts : count_of apex sets ≡ count_of apex low + (count_of apex level + count_of apex high)
    count_parts =
        ap (λ l. count_of apex l) (parts set_cmp sets_total item sets order)
        ∙ (count_append its low (level ++ high) ∙ ap (λ n. count_of apex low + n) (count_append its level high))

    count_with : count_of apex (with_entry set_cmp item sets) ≡ count_of apex low + (cond (its item) 1 0 + count_of apex high)
    count_with = count_append its low (item ∷ high) ∙ ap (λ n. count_of apex low + n) (count_first its item high)

    count_without : count_of apex (without_entry set_cmp item sets) ≡ count_of apex low + count_of apex high
    count_without = ap (λ l. count_of apex l) (sym (others set_cmp sets_total item sets order)) ∙ count_append its low high

    replaced : 0 < length level → count_of apex (with_entry set_cmp item sets) ≡ count_of apex sets
    replaced some = count_with ∙ (ap (λ n. count_of apex low + (n + count_of apex high)) (sym (level_count apex some)) ∙ sym count_parts)

    added : length level ≡ 0 → count_of apex (with_entry set_cmp item sets) ≡ cond (its item) 1 0 + count_of apex sets
    added none = sums _ _ _ _ _ _ count_parts count_with (count_none its level none)
      where
        sums : (all made l v h one : ℕ) → all ≡ l + (v + h) → made ≡ l + (one + h) → v ≡ 0 → made ≡ one + all
        sums all made l v h one is is' none' = omega (arith, is, is', none')

    taken : 0 < length level → cond (its item) 1 0 + count_of apex (without_entry set_cmp item sets) ≡ count_of apex sets
    taken some = sums _ _ _ _ _ _ count_parts count_without (level_count apex some)
      where
        sums : (all made l v h one : ℕ) → all ≡ l + (v + h) → made ≡ l + h → v ≡ one → one + made ≡ all
        sums all made l v h one is is' one' = omega (arith, is, is', one')

  -- ---- the counts of the sets

  module _ (counts : List SetCount) (are : AreCounted sets counts) where
    pub counted_replaced : (from to : ℕ) → IsRank set_cmp item sets from to → from < to → AreCounted (with_entry set_cmp item sets) counts
    counted_replaced from to rank less = record {
      in_order = with_in_order set_cmp sets_total item sets order;
      exact = λ apex. are.exact apex ∙ sym (replaced apex (omega (arith, less, rank.equal)));
      some = are.some;
    }

    pub counted_more : (from to : ℕ) → IsRank set_cmp item sets from to → to ≤ from → (made : List SetCount) → IsRecounted (zone_of item) (count_at (zone_of item) counts + 1) counts made → AreCounted (with_entry set_cmp item sets) made
    counted_more from to rank upto made is = record {
      in_order = with_in_order set_cmp sets_total item sets order;
      exact = λ apex. by apex (same_name (zone_of item) apex) refl (added apex (omega (arith, upto, rank.equal)));
      some = is.some are.some;
    }
      where
        by : (apex : List Label) (b : Bool) → same_name (zone_of item) apex ≡ b → count_of apex (with_entry set_cmp item sets) ≡ cond b 1 0 + count_of apex sets → count_at apex made ≡ count_of apex (with_entry set_cmp item sets)
        by apex true same more =
            let recounted = subst (λ a. count_at a made ≡ count_at a counts + 1) (name_equal (zone_of item) apex same) is.its in
            omega (arith, recounted, are.exact apex, more)
        by apex false other more = is.others apex (λ same. true≢false (sym (same_names (zone_of item) apex (sym same)) ∙ other)) ∙ (are.exact apex ∙ omega (arith, more))

    pub counted_here : Contains sets item → 0 < count_at (zone_of item) counts
    counted_here has = subst (λ n. 0 < n) (sym (are.exact (zone_of item))) (has_some (kept (λ x. same_name (zone_of x) (zone_of item)) sets item has (same_names (zone_of item) (zone_of item) refl)))
      where
        has_some : Contains (filter (λ x. same_name (zone_of x) (zone_of item)) sets) item → 0 < count_of (zone_of item) sets
        has_some has' = omega (arith, has'.1)

    pub counted_less : Contains sets item → (made : List SetCount) → IsRecounted (zone_of item) (count_at (zone_of item) counts - 1) counts made → AreCounted (without_entry set_cmp item sets) made
    counted_less has made is = record {
      in_order = AllPairs-filter (λ x y. set_cmp x y ≡ Less) (λ x. not (is_eq (set_cmp x item))) sets order;
      exact = λ apex. by apex (same_name (zone_of item) apex) refl (taken apex some);
      some = is.some are.some;
    }
      where
        some : 0 < length level
        some = let there' = kept (λ x. is_eq (set_cmp x item)) sets item has (ap is_eq (tied_itself sets_total item)) in omega (arith, there'.1)

        by : (apex : List Label) (b : Bool) → same_name (zone_of item) apex ≡ b → cond b 1 0 + count_of apex (without_entry set_cmp item sets) ≡ count_of apex sets → count_at apex made ≡ count_of apex (without_entry set_cmp item sets)
        by apex true same less =
            let recounted = subst (λ a. count_at a made ≡ count_at a counts - 1) (name_equal (zone_of item) apex same) is.its in
            omega (arith, recounted, are.exact apex, less)
        by apex false other less = is.others apex (λ same. true≢false (sym (same_names (zone_of item) apex (sym same)) ∙ other)) ∙ (are.exact apex ∙ omega (arith, less))

-- ---- whether a zone has a set

module _ (sets : List Record) (counts : List SetCount) (are : AreCounted sets counts) (apex : List Label) (n : ℕ) (is : n ≡ count_at apex counts) where
  abbrev Its : Record → Bool
  Its item = same_name (zone_of item) apex

  pub has_set : nat_lt 0 n ≡ true → (item : Record) × Contains sets item × (zone_of item ≡ apex)
  has_set some = by (filter Its sets) refl
    where
      by : (xs : List Record) → filter Its sets ≡ xs → (item : Record) × Contains sets item × (zone_of item ≡ apex)
      by [] none = absurd (omega (arith, (Decides-ltb 0 n).0 some, is, are.exact apex, ap length none))
      by (x ∷ xs) kept_is = let was = was_kept Its sets x (subst (λ l. Contains l x) (sym kept_is) (here x xs)) in (x, was.0, name_equal (zone_of x) apex was.1)

  pub set_is_there : (item : Record) → Contains sets item → zone_of item ≡ apex → nat_lt 0 n ≡ true
  set_is_there item has same =
      let one = kept Its sets item has (same_names (zone_of item) apex same) in
      (Decides-ltb 0 n).1 (omega (arith, is, are.exact apex, one.1))
