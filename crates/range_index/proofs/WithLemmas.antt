use Rattle.std.proofs.Common.{◌≡◌, ℕ, ◌+◌, ◌-◌, ◌<◌, ◌≤◌, min, Bool, true, false, not, ◌||◌, List, [], ◌∷◌, ◌++◌, length, get_or, take, drop, arith, refl, sym, ap, ◌∙◌, true≢false}
use mathlib.Core.Logic.{inl, inr}
use Rattle.std.specs.Ordering.{is_lt}
use Rattle.std.specs.declared.cmp.Ordering.{Ordering}
use Rattle.std.specs.Cmp.{IsTotalOrder}
use Rattle.std.specs.List.{filter, All, AllPairs, prefix_len}
use Rattle.std.proofs.lemmas.Bool.{cases_lt}
use Rattle.std.proofs.lemmas.List.{get_or_read, length-take-le, drop_all, drop-append-le}
use Rattle.std.proofs.lemmas.List.Elements.{filter_passes}
use Rattle.std.proofs.lemmas.List.Kept.{AllPairs-filter}
use Rattle.dname.specs.Arc.{arc_has}
use Rattle.range_index.specs.Arcs.{span_has, is_apart, starts_before, IsArcs, inserted, arcs_with, FailInRuns}
use Rattle.range_index.specs.Steps.{IsTrimmed, IsPlainMet, IsOverMet}
use Rattle.range_index.proofs.OrderLemmas.{arc_test, either, before_upto, upto_before, before_back, has_by, neither, by_neither, by_first, by_second}
use Rattle.range_index.proofs.RunLemmas.{Tests, front_tests, back_tests, cut_tests, filter_around, filter_run, filter_cut}
use Rattle.range_index.proofs.InsertLemmas.{inserted_end, inserted_at, AllPairs-inserted}
use Rattle.range_index.proofs.SpanLemmas.{IsCount, IsCount-found, free_behind, free_plain, not_both_have, before_parted}

pub IsArcs-filter : {S K : Type 0} (cmp : K → K → Ordering) (start end : S → K) (p : S → Bool) (xs : List S) → IsArcs cmp start end xs → IsArcs cmp start end (filter p xs)
IsArcs-filter cmp start end p xs arcs = record {
  in_order = AllPairs-filter (λ x y. starts_before cmp start y x ≡ true) p xs arcs.in_order;
  apart = AllPairs-filter (λ x y. is_apart cmp start end x y ≡ true) p xs arcs.apart;
}

or_true : (p : Bool) → (p || true) ≡ true
or_true true = refl
or_true false = refl

pub at_most_one : {S K : Type 0} (cmp : K → K → Ordering) → IsTotalOrder cmp → (start end : S → K) (xs : List S) → IsArcs cmp start end xs → (key : K) → length (filter (span_has cmp start end key) xs) ≤ 1
at_most_one {S} cmp o start end xs arcs key = among (filter (span_has cmp start end key) xs) (IsArcs-filter cmp start end (span_has cmp start end key) xs arcs) (filter_passes (span_has cmp start end key) xs)
  where
    among : (ys : List S) → IsArcs cmp start end ys → All (λ y. span_has cmp start end key y ≡ true) ys → length ys ≤ 1
    among [] apart all = omega arith
    among (y ∷ ys) apart all = elim (cases_lt 1 (length (y ∷ ys))) [
      | inr le ↦ le
      | inl lt ↦ absurd (true≢false (sym (all 0 y (omega arith)) ∙ not_both_have cmp o start end (y ∷ ys) apart 0 1 y key (omega arith) lt (all 1 y lt)))
    ]

module _ {S K : Type 0} (cmp : K → K → Ordering) (o : IsTotalOrder cmp) (start end : S → K) where
  or_turned : (p q : Bool) → not (p || q) ≡ not (q || p)
  or_turned true true = refl
  or_turned true false = refl
  or_turned false true = refl
  or_turned false false = refl

  apart_back : (x y : S) → is_apart cmp start end x y ≡ is_apart cmp start end y x
  apart_back x y = or_turned (arc_has cmp (start x) (end x) (start y)) (arc_has cmp (start y) (end y) (start x))

  -- a start that isn't before the new one's comes after it, where the two don't meet
  after_new : (new x : S) → is_apart cmp start end new x ≡ true → is_lt (cmp (start x) (start new)) ≡ false → is_lt (cmp (start new) (start x)) ≡ true
  after_new new x apart from =
      either (is_lt (cmp (start new) (start x))) (λ e. e) (λ level.
      let has : arc_has cmp (start new) (end new) (start x) ≡ true =
      either (is_lt (cmp (start new) (end new)))
      (λ plain. has_by cmp o (start new) (end new) (start x) true false true plain from (upto_before cmp o (start x) (start new) (end new) level plain))
      (λ over. has_by cmp o (start new) (end new) (start x) false false (is_lt (cmp (start x) (end new))) over from refl) in
      absurd (true≢false (sym has ∙ (neither _ _ apart).0)))

  pub IsArcs-with : (new : S) (xs : List S) → IsArcs cmp start end xs → IsArcs cmp start end (arcs_with cmp start end new xs)
  IsArcs-with new xs arcs =
      let kept : IsArcs cmp start end (filter (is_apart cmp start end new) xs) = IsArcs-filter cmp start end (is_apart cmp start end new) xs arcs in
      let apart : All (λ x. is_apart cmp start end new x ≡ true) (filter (is_apart cmp start end new) xs) = filter_passes (is_apart cmp start end new) xs in
      let parted : AllPairs (λ x y. starts_before cmp start new y ≡ true → starts_before cmp start new x ≡ true) (filter (is_apart cmp start end new) xs) =
      λ i j d lt hi. before_parted cmp o start end (filter (is_apart cmp start end new) xs) kept (start new) i j d (omega arith) hi in
      record {
        in_order = AllPairs-inserted (λ x y. starts_before cmp start y x ≡ true) (starts_before cmp start new) new (filter (is_apart cmp start end new) xs) kept.in_order parted
            (λ k d lt before. before)
            (λ k d lt from. after_new new (get_or (filter (is_apart cmp start end new) xs) k d) (apart k d lt) from);
        apart = AllPairs-inserted (λ x y. is_apart cmp start end x y ≡ true) (starts_before cmp start new) new (filter (is_apart cmp start end new) xs) kept.apart parted
            (λ k d lt before. apart_back (get_or (filter (is_apart cmp start end new) xs) k d) new ∙ apart k d lt)
            (λ k d lt from. apart k d lt);
      }

module _ {S K : Type 0} (cmp : K → K → Ordering) (o : IsTotalOrder cmp) (start end : S → K) (xs : List S) (arcs : IsArcs cmp start end xs) (new : S) (n m from : ℕ)
    (by_start : IsCount (λ x. is_lt (cmp (start x) (start new))) xs n)
    (by_end : IsCount (λ x. is_lt (cmp (start x) (end new))) xs m)
    (front : IsTrimmed (span_has cmp start end (start new)) xs 0 n from) where
  -- a span before the place `from` doesn't have the new start
  free_front : (k : ℕ) (d : S) → k < from → span_has cmp start end (start new) (get_or xs k d) ≡ false
  free_front k d lt = elim (cases_lt (k + 1) n) [
    | inl earlier ↦ free_behind cmp o start end xs arcs k (n - 1) d (start new) (omega arith) (omega (arith, by_start.in_range)) (before_back cmp o _ _ (by_start.first (n - 1) d (omega arith) (omega arith)))
    | inr last ↦ front.fails k d (omega arith) (omega arith) lt
  ]

  new_has : (k : ℕ) (d : S) (p q r : Bool) → is_lt (cmp (start new) (end new)) ≡ p → is_lt (cmp (start (get_or xs k d)) (start new)) ≡ q → is_lt (cmp (start (get_or xs k d)) (end new)) ≡ r → arc_has cmp (start new) (end new) (start (get_or xs k d)) ≡ arc_test p q r
  new_has k d = has_by cmp o (start new) (end new) (start (get_or xs k d))

  apart_from : (k : ℕ) (d : S) → arc_has cmp (start new) (end new) (start (get_or xs k d)) ≡ false → span_has cmp start end (start new) (get_or xs k d) ≡ false → is_apart cmp start end new (get_or xs k d) ≡ true
  apart_from k d = by_neither (arc_has cmp (start new) (end new) (start (get_or xs k d))) (span_has cmp start end (start new) (get_or xs k d))

  met_by_new : (k : ℕ) (d : S) → arc_has cmp (start new) (end new) (start (get_or xs k d)) ≡ true → is_apart cmp start end new (get_or xs k d) ≡ false
  met_by_new k d = by_first (arc_has cmp (start new) (end new) (start (get_or xs k d))) (span_has cmp start end (start new) (get_or xs k d))

  meets_new : (k : ℕ) (d : S) → span_has cmp start end (start new) (get_or xs k d) ≡ true → is_apart cmp start end new (get_or xs k d) ≡ false
  meets_new k d = by_second (arc_has cmp (start new) (end new) (start (get_or xs k d))) (span_has cmp start end (start new) (get_or xs k d))

  module _ (plain : is_lt (cmp (start new) (end new)) ≡ true) where
    pub ends_later : n ≤ m
    ends_later = elim (cases_lt m n) [
      | inr le ↦ le
      | inl lt ↦
          let hi : m < length xs = omega (arith, by_start.in_range) in
          let early : is_lt (cmp (start (get_or xs m new)) (start new)) ≡ true = by_start.first m new (omega arith) lt in
          let late : is_lt (cmp (start (get_or xs m new)) (end new)) ≡ false = by_end.rest m new (omega arith) hi in
          absurd (true≢false (sym (upto_before cmp o (start (get_or xs m new)) (start new) (end new) (before_back cmp o _ _ early) plain) ∙ late))
    ]

    module _ (c : ℕ) (back : IsTrimmed (span_has cmp start end (start new)) xs m (length xs) c) where
      plain_front : Tests (is_apart cmp start end new) true xs 0 from
      plain_front k d lo lt =
          apart_from k d (new_has k d true true (is_lt (cmp (start (get_or xs k d)) (end new))) plain (by_start.first k d lo (omega (arith, front.order))) refl) (free_front k d lt)

      plain_run : Tests (is_apart cmp start end new) false xs from m
      plain_run k d lo lt = elim (cases_lt k n) [
        | inl early ↦ meets_new k d (front.passes k d lo early)
        | inr late ↦ met_by_new k d (new_has k d true false true plain (by_start.rest k d late (omega (arith, by_end.in_range))) (by_end.first k d (omega arith) lt))
      ]

      plain_back : Tests (is_apart cmp start end new) true xs m c
      plain_back k d lo lt =
          let hi : k < length xs = omega (arith, back.order) in
          let from_end : is_lt (cmp (start (get_or xs k d)) (end new)) ≡ false = by_end.rest k d lo hi in
          let le : n ≤ m = ends_later in
          apart_from k d (new_has k d true false false plain (by_start.rest k d (omega arith) hi) from_end)
          (elim (cases_lt (k + 1) (length xs)) [
            | inl inner ↦ free_plain cmp o start end xs arcs k d (start new) inner (before_upto cmp o (start new) (end new) (start (get_or xs k d)) plain from_end)
            | inr last ↦ back.fails k d lo last lt
          ])

      plain_cut : Tests (is_apart cmp start end new) false xs c (length xs)
      plain_cut k d lo lt = meets_new k d (back.passes k d lo lt)

      pub plain_filter : filter (is_apart cmp start end new) xs ≡ take from (take c xs) ++ drop m (take c xs)
      plain_filter =
          let in_range : c ≤ length xs = back.order in
          let above : m ≤ c = back.above in
          let le : n ≤ m = ends_later in
          let order : from ≤ n = front.order in
          let long : length (take c xs) ≡ c = length-take-le c xs in_range in
          filter_cut (is_apart cmp start end new) xs c in_range plain_cut
          ∙ filter_around (is_apart cmp start end new) (take c xs) from m (omega arith) (omega arith)
          (cut_tests (is_apart cmp start end new) xs c 0 from true (omega arith) plain_front)
          (cut_tests (is_apart cmp start end new) xs c from m false (omega arith) plain_run)
          (λ k d lo lt. cut_tests (is_apart cmp start end new) xs c m c true (omega arith) plain_back k d lo (omega arith))

      pub plain_runs : FailInRuns (is_apart cmp start end new) xs from m c
      plain_runs = record {
        order = omega (arith, front.order, ends_later);
        between = back.above;
        in_range = back.order;
        before_from = plain_front;
        up_to = plain_run;
        before_last = plain_back;
        from_last = plain_cut;
      }

      pub plain_with : take from (take c xs) ++ new ∷ drop m (take c xs) ≡ arcs_with cmp start end new xs
      plain_with =
          let in_range : c ≤ length xs = back.order in
          let above : m ≤ c = back.above in
          let le : n ≤ m = ends_later in
          let order : from ≤ n = front.order in
          let long : length (take c xs) ≡ c = length-take-le c xs in_range in
          sym (ap (inserted (starts_before cmp start new) new) plain_filter
          ∙ inserted_at (starts_before cmp start new) new (take from (take c xs)) (drop m (take c xs))
          (front_tests (starts_before cmp start new) (take c xs) from true (omega arith) (cut_tests (starts_before cmp start new) xs c 0 from true (omega arith) (λ k d lo lt. by_start.first k d lo (omega arith))))
          (back_tests (starts_before cmp start new) (take c xs) m false (omega arith) (λ k d lo lt. cut_tests (starts_before cmp start new) xs c m c false (omega arith) (λ k d lo lt. by_start.rest k d (omega arith) (omega arith)) k d lo (omega arith))))

  module _ (over : is_lt (cmp (start new) (end new)) ≡ false) where
    pub ends_earlier : m ≤ n
    ends_earlier = elim (cases_lt n m) [
      | inr le ↦ le
      | inl lt ↦
          let hi : n < length xs = omega (arith, by_end.in_range) in
          let early : is_lt (cmp (start (get_or xs n new)) (end new)) ≡ true = by_end.first n new (omega arith) lt in
          let late : is_lt (cmp (start (get_or xs n new)) (start new)) ≡ false = by_start.rest n new (omega arith) hi in
          absurd (true≢false (sym (upto_before cmp o (start new) (start (get_or xs n new)) (end new) late early) ∙ over))
    ]

    over_front : Tests (is_apart cmp start end new) false xs 0 (min m from)
    over_front k d lo lt =
        met_by_new k d (new_has k d false (is_lt (cmp (start (get_or xs k d)) (start new))) true over refl (by_end.first k d lo (omega arith)) ∙ or_true (not (is_lt (cmp (start (get_or xs k d)) (start new)))))

    over_run : Tests (is_apart cmp start end new) true xs (min m from) from
    over_run k d lo lt =
        apart_from k d (new_has k d false true false over (by_start.first k d (omega arith) (omega (arith, front.order))) (by_end.rest k d (omega arith) (omega (arith, front.order, by_start.in_range)))) (free_front k d lt)

    over_back : Tests (is_apart cmp start end new) false xs from (length xs)
    over_back k d lo lt = elim (cases_lt k n) [
      | inl early ↦ meets_new k d (front.passes k d lo early)
      | inr late ↦ met_by_new k d (new_has k d false false (is_lt (cmp (start (get_or xs k d)) (end new))) over (by_start.rest k d late lt) refl)
    ]

    pub over_runs : FailInRuns (is_apart cmp start end new) xs 0 (min m from) from
    over_runs = record {
      order = omega arith;
      between = omega arith;
      in_range = omega (arith, front.order, by_start.in_range);
      before_from = λ k d lo hi. absurd (omega arith);
      up_to = over_front;
      before_last = over_run;
      from_last = over_back;
    }

    pub over_with : drop (min m from) (take from xs) ++ new ∷ [] ≡ arcs_with cmp start end new xs
    over_with =
        let order : from ≤ n = front.order in
        let in_range : n ≤ length xs = by_start.in_range in
        let long : length (take from xs) ≡ from = length-take-le from xs (omega arith) in
        sym (ap (inserted (starts_before cmp start new) new) (filter_run (is_apart cmp start end new) xs (min m from) from (omega arith) (omega arith) over_front over_run over_back)
        ∙ inserted_end (starts_before cmp start new) new (drop (min m from) (take from xs))
        (back_tests (starts_before cmp start new) (take from xs) (min m from) true (omega arith) (λ k d lo lt. cut_tests (starts_before cmp start new) xs from (min m from) from true (omega arith) (λ k d lo lt. by_start.first k d (omega arith) (omega arith)) k d lo (omega arith))))

pub IsPlainMet-found : {S K : Type 0} (cmp : K → K → Ordering) (o : IsTotalOrder cmp) (start end : S → K) (xs : List S) (arcs : IsArcs cmp start end xs) (new : S) (s e : K) (n m from c l : ℕ) → s ≡ start new → e ≡ end new → n ≡ prefix_len (λ x. is_lt (cmp (start x) s)) xs → m ≡ prefix_len (λ x. is_lt (cmp (start x) e)) xs → IsTrimmed (span_has cmp start end s) xs 0 n from → l ≡ length xs → IsTrimmed (span_has cmp start end s) xs m l c → is_lt (cmp (start new) (end new)) ≡ true → IsPlainMet (is_apart cmp start end new) xs new (arcs_with cmp start end new xs) from m c
IsPlainMet-found cmp o start end xs arcs new s e n m from c l hs he hn hm front hl back plain =
    let by_start : IsCount (λ x. is_lt (cmp (start x) (start new))) xs n = rw hs at (IsCount-found (λ x. is_lt (cmp (start x) s)) xs n (before_parted cmp o start end xs arcs s) hn) in
    let by_end : IsCount (λ x. is_lt (cmp (start x) (end new))) xs m = rw he at (IsCount-found (λ x. is_lt (cmp (start x) e)) xs m (before_parted cmp o start end xs arcs e) hm) in
    let front' : IsTrimmed (span_has cmp start end (start new)) xs 0 n from = rw hs at front in
    let back' : IsTrimmed (span_has cmp start end (start new)) xs m (length xs) c = rw (hs, hl) at back in
    record {
      runs = plain_runs cmp o start end xs arcs new n m from by_start by_end front' plain c back';
      is = plain_with cmp o start end xs arcs new n m from by_start by_end front' plain c back';
    }

pub IsOverMet-found : {S K : Type 0} (cmp : K → K → Ordering) (o : IsTotalOrder cmp) (start end : S → K) (xs : List S) (arcs : IsArcs cmp start end xs) (new : S) (s e : K) (n m from b : ℕ) → s ≡ start new → e ≡ end new → n ≡ prefix_len (λ x. is_lt (cmp (start x) s)) xs → m ≡ prefix_len (λ x. is_lt (cmp (start x) e)) xs → IsTrimmed (span_has cmp start end s) xs 0 n from → b ≡ min m from → is_lt (cmp (start new) (end new)) ≡ false → IsOverMet (is_apart cmp start end new) xs new (arcs_with cmp start end new xs) b from
IsOverMet-found cmp o start end xs arcs new s e n m from b hs he hn hm front hb over =
    let by_start : IsCount (λ x. is_lt (cmp (start x) (start new))) xs n = rw hs at (IsCount-found (λ x. is_lt (cmp (start x) s)) xs n (before_parted cmp o start end xs arcs s) hn) in
    let by_end : IsCount (λ x. is_lt (cmp (start x) (end new))) xs m = rw he at (IsCount-found (λ x. is_lt (cmp (start x) e)) xs m (before_parted cmp o start end xs arcs e) hm) in
    let front' : IsTrimmed (span_has cmp start end (start new)) xs 0 n from = rw hs at front in
    record {
      runs = rw hb (over_runs cmp o start end xs arcs new n m from by_start by_end front' over);
      is = ap (λ z. drop z (take from xs) ++ new ∷ []) hb ∙ over_with cmp o start end xs arcs new n m from by_start by_end front' over;
    }

-- behind the first so many, where one element came in place of the end
behind_kept : {X : Type 0} (xs ys : List X) (new : X) (kept l dropped : ℕ) → ys ≡ take kept xs ++ new ∷ drop l xs → l ≡ length xs → kept ≤ length xs → dropped ≤ kept → drop dropped ys ≡ drop dropped (take kept xs) ++ new ∷ []
behind_kept xs ys new kept l dropped e hl in_range order =
    let past : length xs ≤ l = omega arith in
    let long : length (take kept xs) ≡ kept = length-take-le kept xs in_range in
    ap (drop dropped) (e ∙ ap (λ z. take kept xs ++ new ∷ z) (drop_all l xs past))
    ∙ drop-append-le dropped (take kept xs) (new ∷ []) (omega arith)

-- the list with the new one in place of its end, without its first run
pub IsOverMet-made : {X : Type 0} (p : X → Bool) (xs ys zs : List X) (new : X) (made : List X) (to last l : ℕ) → zs ≡ drop to ys → ys ≡ take last xs ++ new ∷ drop l xs → l ≡ length xs → IsOverMet p xs new made to last → zs ≡ made
IsOverMet-made p xs ys zs new made to last l dropped e hl met =
    dropped ∙ (behind_kept xs ys new last l to e hl met.runs.in_range met.runs.between ∙ met.is)

-- the three returns of `trimmed`
pub IsTrimmed-shorter : {X : Type 0} (p : X → Bool) (xs : List X) (low high : ℕ) (x : X) → low < high → high ≤ length xs → x ≡ get_or xs (high - 1) x → p x ≡ true → IsTrimmed p xs low high (high - 1)
IsTrimmed-shorter p xs low high x lt le e passes = record {
  above = omega arith;
  order = omega arith;
  passes = λ k d lo hi. let same : k ≡ high - 1 = omega arith in ap (λ z. p (get_or xs z d)) same ∙ ap p (sym (get_or_read xs (high - 1) x (omega arith) e d)) ∙ passes;
  fails = λ k d lo last hi. absurd (omega arith);
}

pub IsTrimmed-whole : {X : Type 0} (p : X → Bool) (xs : List X) (low high : ℕ) (x : X) → low < high → high ≤ length xs → x ≡ get_or xs (high - 1) x → p x ≡ false → IsTrimmed p xs low high high
IsTrimmed-whole p xs low high x lt le e fails = record {
  above = omega arith;
  order = omega arith;
  passes = λ k d lo hi. absurd (omega arith);
  fails = λ k d lo last hi. let same : k ≡ high - 1 = omega arith in ap (λ z. p (get_or xs z d)) same ∙ ap p (sym (get_or_read xs (high - 1) x (omega arith) e d)) ∙ fails;
}

pub IsTrimmed-none : {X : Type 0} (p : X → Bool) (xs : List X) (low high : ℕ) → low ≤ high → high ≤ low → IsTrimmed p xs low high high
IsTrimmed-none p xs low high le ge = record {
  above = le;
  order = omega arith;
  passes = λ k d lo hi. absurd (omega arith);
  fails = λ k d lo last hi. absurd (omega arith);
}
