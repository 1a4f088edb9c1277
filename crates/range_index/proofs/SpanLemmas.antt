use Rattle.std.proofs.Common.{◌≡◌, ℕ, ◌+◌, ◌-◌, ◌<◌, ◌≤◌, Bool, true, false, not, List, [], ◌∷◌, length, get_or, take, drop, arith, refl, sym, ap, ◌∙◌, true≢false, subst}
use mathlib.Core.Logic.{inl, inr}
use Rattle.std.specs.Ordering.{is_lt, is_le, is_eq}
use Rattle.std.specs.declared.cmp.Ordering.{Ordering}
use Rattle.std.specs.declared.cmp.Ordering.TheVariants.{Less, Equal, Greater}
use Rattle.std.specs.Cmp.{IsTotalOrder}
use Rattle.std.specs.List.{filter, prefix_len}
use Rattle.std.specs.List.Sorted.{IsPartitionedBy}
use Rattle.std.proofs.lemmas.Bool.{cases_lt, not-true, not-false}
use Rattle.std.proofs.lemmas.List.{take_more, drop_at, length-take-le, get_or_read}
use Rattle.std.proofs.lemmas.List.Sums.{prefix_len_passes, prefix_len_stops, prefix_len-le-length}
use Rattle.facts.proofs.Filters.{filter_none}
use Rattle.facts.proofs.Orderings.{less_not_equal}
use Rattle.range_index.specs.Arcs.{span_has, starts_elsewhere, IsArcs}
use Rattle.range_index.specs.Steps.{IsCandidate, IsCut}
use Rattle.range_index.proofs.OrderLemmas.{either, le_is, upto_upto, before_upto, upto_before, before_back, upto_itself, has_by, IsBehind, IsBehind-apart}
use Rattle.range_index.proofs.RunLemmas.{Tests, filter_run, filter_around}

-- how many pass at the front, where those that pass come first
pub record IsCount {X : Type 0} (p : X → Bool) (xs : List X) (n : ℕ) : Type 0 where
  pub in_range : n ≤ length xs
  pub first : Tests p true xs 0 n
  pub rest : Tests p false xs n (length xs)

pub IsCount-found : {X : Type 0} (p : X → Bool) (xs : List X) (n : ℕ) → IsPartitionedBy p xs → n ≡ prefix_len p xs → IsCount p xs n
IsCount-found p xs n parted e =
    let le : prefix_len p xs ≤ length xs = prefix_len-le-length p xs in
    record {
      in_range = omega arith;
      first = λ k d lo hi. prefix_len_passes p xs k d (omega arith);
      rest = λ k d lo hi. either (p (get_or xs k d)) (λ yes_there.
          let here : p (get_or xs (prefix_len p xs) d) ≡ true = parted (prefix_len p xs) k d (omega arith) hi yes_there in
          absurd (true≢false (sym here ∙ prefix_len_stops p xs d (omega arith)))) (λ e. e);
    }

first_of : {X : Type 0} (xs : List X) → 0 < length xs → X
first_of [] some = absurd (omega arith)
first_of (x ∷ xs) some = x

level_at : (r : Ordering) → is_lt r ≡ false → is_le r ≡ true → not (is_eq r) ≡ false
level_at Less h k = absurd (true≢false h)
level_at Equal h k = refl
level_at Greater h k = absurd (true≢false (sym k))

behind_not_at : (r : Ordering) → is_le r ≡ false → not (is_eq r) ≡ true
behind_not_at Less h = absurd (true≢false h)
behind_not_at Equal h = absurd (true≢false h)
behind_not_at Greater h = refl

before_upto_at : (r : Ordering) → is_lt r ≡ true → is_le r ≡ false → ⊥
before_upto_at Less h k = true≢false k
before_upto_at Equal h k = true≢false k
before_upto_at Greater h k = true≢false (sym h)

module _ {S K : Type 0} (cmp : K → K → Ordering) (o : IsTotalOrder cmp) (start end : S → K) (xs : List S) (arcs : IsArcs cmp start end xs) where
  pub pair : (i j : ℕ) (d : S) → i < j → j < length xs → IsBehind cmp (start (get_or xs i d)) (end (get_or xs i d)) (start (get_or xs j d)) (end (get_or xs j d))
  pair i j d lt hi = IsBehind-apart cmp o _ _ _ _ (arcs.in_order i j d lt hi) (arcs.apart i j d lt hi)

  rising : (i j : ℕ) (d : S) → i ≤ j → j < length xs → is_lt (cmp (start (get_or xs j d)) (start (get_or xs i d))) ≡ false
  rising i j d le hi = elim (cases_lt i j) [
    | inl lt ↦ before_back cmp o _ _ (arcs.in_order i j d lt hi)
    | inr ge ↦
        let same : j ≡ i = omega arith in
        ap (λ z. is_lt (cmp (start (get_or xs z d)) (start (get_or xs i d)))) same ∙ upto_itself cmp o (start (get_or xs i d))
  ]

  pub before_parted : (key : K) → IsPartitionedBy (λ x. is_lt (cmp (start x) key)) xs
  before_parted key i j d le hi h = upto_before cmp o _ _ _ (rising i j d le hi) h

  pub upto_parted : (key : K) → IsPartitionedBy (λ x. is_le (cmp (start x) key)) xs
  upto_parted key i j d le hi h =
      let back : not (is_lt (cmp key (start (get_or xs j d)))) ≡ true = sym (le_is cmp o (start (get_or xs j d)) key) ∙ h in
      le_is cmp o (start (get_or xs i d)) key
      ∙ ap not (upto_upto cmp o (start (get_or xs i d)) (start (get_or xs j d)) key (rising i j d le hi) (not-true _ back))

  -- a span whose next one starts up to the key doesn't have it
  pub free_behind : (i j : ℕ) (d : S) (key : K) → i < j → j < length xs → is_lt (cmp key (start (get_or xs j d))) ≡ false → span_has cmp start end key (get_or xs i d) ≡ false
  free_behind i j d key lt hi upto =
      let p : IsBehind cmp (start (get_or xs i d)) (end (get_or xs i d)) (start (get_or xs j d)) (end (get_or xs j d)) = pair i j d lt hi in
      has_by cmp o (start (get_or xs i d)) (end (get_or xs i d)) key true false false p.plain
      (before_back cmp o (start (get_or xs i d)) key (before_upto cmp o (start (get_or xs i d)) (start (get_or xs j d)) key (arcs.in_order i j d lt hi) upto))
      (upto_upto cmp o (end (get_or xs i d)) (start (get_or xs j d)) key p.ends upto)

  -- one that starts behind the key doesn't, unless it is the last
  pub free_plain : (k : ℕ) (d : S) (key : K) → k + 1 < length xs → is_lt (cmp key (start (get_or xs k d))) ≡ true → span_has cmp start end key (get_or xs k d) ≡ false
  free_plain k d key hi before =
      has_by cmp o (start (get_or xs k d)) (end (get_or xs k d)) key true true (is_lt (cmp key (end (get_or xs k d)))) (pair k (k + 1) d (omega arith) hi).plain before refl

  -- nor the last, if another one starts up to the key
  pub free_over : (c k : ℕ) (d : S) (key : K) → c < k → k < length xs → is_lt (cmp key (start (get_or xs c d))) ≡ false → is_lt (cmp key (start (get_or xs k d))) ≡ true → span_has cmp start end key (get_or xs k d) ≡ false
  free_over c k d key lt hi upto before =
      let a : K = start (get_or xs k d) in
      let b : K = end (get_or xs k d) in
      either (is_lt (cmp a b)) (λ plain. has_by cmp o a b key true true (is_lt (cmp key b)) plain before refl)
      (λ over. has_by cmp o a b key false true false over before (upto_upto cmp o b (start (get_or xs c d)) key ((pair c k d lt hi).over over) upto))

  counted : (key : K) (n : ℕ) → n ≡ prefix_len (λ x. is_le (cmp (start x) key)) xs → IsCount (λ x. is_le (cmp (start x) key)) xs n
  counted key n e = IsCount-found (λ x. is_le (cmp (start x) key)) xs n (upto_parted key) e

  upto_key : (key : K) (n k : ℕ) (d : S) → n ≡ prefix_len (λ x. is_le (cmp (start x) key)) xs → k < n → is_lt (cmp key (start (get_or xs k d))) ≡ false
  upto_key key n k d e lt = not-true _ (sym (le_is cmp o (start (get_or xs k d)) key) ∙ (counted key n e).first k d (omega arith) lt)

  behind_key : (key : K) (n k : ℕ) (d : S) → n ≡ prefix_len (λ x. is_le (cmp (start x) key)) xs → n ≤ k → k < length xs → is_lt (cmp key (start (get_or xs k d))) ≡ true
  behind_key key n k d e le lt = not-false _ (sym (le_is cmp o (start (get_or xs k d)) key) ∙ (counted key n e).rest k d le lt)

  -- the last span that starts up to the key
  pub candidate_before : (key : K) (n : ℕ) → n ≡ prefix_len (λ x. is_le (cmp (start x) key)) xs → 0 < n → IsCandidate (span_has cmp start end key) (λ x. is_le (cmp (start x) key)) xs (n - 1) true
  candidate_before key n e some =
      let count : IsCount (λ x. is_le (cmp (start x) key)) xs n = counted key n e in
      record {
        in_range = omega (arith, count.in_range);
        earlier = λ k d lo lt. free_behind k (n - 1) d key lt (omega (arith, count.in_range)) (upto_key key n (n - 1) d e (omega arith));
        later = λ k d lo lt. free_over (n - 1) k d key (omega arith) lt (upto_key key n (n - 1) d e (omega arith)) (behind_key key n k d e (omega arith) lt);
        here = λ d. sym (count.first (n - 1) d (omega arith) (omega arith));
      }

  -- or the last of all
  -- the same by the last of them
  pub candidate_upto : (key : K) (c : ℕ) → c + 1 ≡ prefix_len (λ x. is_le (cmp (start x) key)) xs → IsCandidate (span_has cmp start end key) (λ x. is_le (cmp (start x) key)) xs c true
  candidate_upto key c e =
      let back : c + 1 - 1 ≡ c = omega arith in
      subst (λ place. IsCandidate (span_has cmp start end key) (λ x. is_le (cmp (start x) key)) xs place true) back (candidate_before key (c + 1) e (omega arith))

  pub candidate_last : (key : K) (n l : ℕ) → n ≡ prefix_len (λ x. is_le (cmp (start x) key)) xs → n ≡ 0 → l ≡ length xs → 0 < length xs → IsCandidate (span_has cmp start end key) (λ x. is_le (cmp (start x) key)) xs (l - 1) false
  candidate_last key n l e none hl some =
      record {
        in_range = omega arith;
        earlier = λ k d lo lt. free_plain k d key (omega arith) (behind_key key n k d e (omega arith) (omega arith));
        later = λ k d lo lt. absurd (omega arith);
        here = λ d. sym ((counted key n e).rest (l - 1) d (omega arith) (omega arith));
      }

  pub found_at : (key : K) (c : ℕ) (says : Bool) (y : S) → IsCandidate (span_has cmp start end key) (λ x. is_le (cmp (start x) key)) xs c says → y ≡ get_or xs c y → span_has cmp start end key y ≡ true → filter (span_has cmp start end key) xs ≡ y ∷ []
  found_at key c says y one e has =
      let hi : c < length xs = one.in_range in
      filter_run (span_has cmp start end key) xs c (c + 1) (omega arith) (omega arith) one.earlier
      (λ k d lo lt. let same : k ≡ c = omega arith in ap (λ z. span_has cmp start end key (get_or xs z d)) same ∙ ap (span_has cmp start end key) (sym (get_or_read xs c y hi e d)) ∙ has)
      one.later
      ∙ ap (drop c) (take_more xs c y hi)
      ∙ drop_at (take c xs) (get_or xs c y ∷ []) c (length-take-le c xs (omega arith))
      ∙ ap (λ z. z ∷ []) (sym e)

  pub none_at : (key : K) (c : ℕ) (says : Bool) (y : S) → IsCandidate (span_has cmp start end key) (λ x. is_le (cmp (start x) key)) xs c says → y ≡ get_or xs c y → span_has cmp start end key y ≡ false → filter (span_has cmp start end key) xs ≡ []
  none_at key c says y one e has =
      let hi : c < length xs = one.in_range in
      filter_none (span_has cmp start end key) xs (λ k d lt. elim (cases_lt k c) [
        | inl below ↦ one.earlier k d (omega arith) below
        | inr from ↦ elim (cases_lt c k) [
          | inl above ↦ one.later k d (omega arith) lt
          | inr upto ↦ let same : k ≡ c = omega arith in ap (λ z. span_has cmp start end key (get_or xs z d)) same ∙ ap (span_has cmp start end key) (sym (get_or_read xs c y hi e d)) ∙ has
        ]
      ])

  pub cut_at : (key : K) (n m : ℕ) → n ≡ prefix_len (λ x. is_lt (cmp (start x) key)) xs → m ≡ prefix_len (λ x. is_le (cmp (start x) key)) xs → IsCut (starts_elsewhere cmp start key) xs n m
  cut_at key n m hn hm =
      let before : IsCount (λ x. is_lt (cmp (start x) key)) xs n = IsCount-found (λ x. is_lt (cmp (start x) key)) xs n (before_parted key) hn in
      let upto : IsCount (λ x. is_le (cmp (start x) key)) xs m = counted key m hm in
      let order : n ≤ m = elim (cases_lt m n) [
        | inr le ↦ le
        | inl lt ↦
            let d : S = first_of xs (omega (arith, before.in_range)) in
            absurd (before_upto_at _ (before.first m d (omega arith) lt) (upto.rest m d (omega arith) (omega (arith, before.in_range))))
      ] in
      record {
        order = order;
        in_range = upto.in_range;
        is = sym (filter_around (starts_elsewhere cmp start key) xs n m order upto.in_range
            (λ k d lo hi. less_not_equal _ (before.first k d lo hi))
            (λ k d lo hi. level_at _ (before.rest k d lo (omega (arith, upto.in_range))) (upto.first k d (omega arith) hi))
            (λ k d lo hi. behind_not_at _ (upto.rest k d lo hi)));
      }

  -- of two spans the earlier doesn't have a key that the later has
  pub not_both_have : (i j : ℕ) (d : S) (key : K) → i < j → j < length xs → span_has cmp start end key (get_or xs j d) ≡ true → span_has cmp start end key (get_or xs i d) ≡ false
  not_both_have i j d key lt hi has =
      let p : IsBehind cmp (start (get_or xs i d)) (end (get_or xs i d)) (start (get_or xs j d)) (end (get_or xs j d)) = pair i j d lt hi in
      either (is_lt (cmp key (start (get_or xs j d))))
      (λ before. either (is_lt (cmp key (start (get_or xs i d))))
      (λ early. has_by cmp o (start (get_or xs i d)) (end (get_or xs i d)) key true true (is_lt (cmp key (end (get_or xs i d)))) p.plain early refl)
      (λ late. absurd (true≢false (sym has ∙ free_over i j d key lt hi late before))))
      (λ upto. free_behind i j d key lt hi upto)
