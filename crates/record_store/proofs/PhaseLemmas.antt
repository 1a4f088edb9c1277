-- What the steps of a batch make of what is held.
use Rattle.std.proofs.Common.{◌≡◌, ◌⊎◌, inl, inr, ℕ, ◌+◌, ◌-◌, ◌<◌, ◌≤◌, min, zero, suc, true, false, not, List, length, get_or, take, drop, fold, All, Some, refl, sym, ◌∙◌, ap, subst, arith}
use Rattle.std.specs.List.{slice_get}
use Rattle.std.specs.Cmp.{nat_cmp_is}
use Rattle.std.specs.Ordering.{nat_cmp, ordering_then}
use Rattle.std.specs.declared.cmp.Ordering.TheVariants.{Less, Greater}
use Rattle.std.proofs.lemmas.Bool.{cases_lt}
use Rattle.std.proofs.lemmas.Bool.Decides.{Decides-ltb}
use Rattle.std.proofs.lemmas.List.{get_or_read, get_or-drop, get_or-take, length-drop, length-take, take_all}
use Rattle.std.proofs.lemmas.List.Kept.{AllPairs-filter}
use Rattle.std.proofs.lemmas.List.Sums.{fold_more}
use Rattle.std.proofs.lemmas.Option.{get_or_from_slice_get}
use Rattle.denial_records.specs.declared.batch.Batch.{Batch}
use Rattle.denial_records.specs.declared.record.Record.{Record}
use Rattle.cache_meaning.specs.Held.{Held, expiry_of, key_cmp, is_usable, goes, most_records, held_where, held_with, within_limit, held_after}
use Rattle.held_laws.specs.HeldLaws.{IsApart, NoneDisplaces, EachChainHasARecord, IsReordered}
use Rattle.held_laws.specs.KeyOrder.{in_key_order, kept_after}
use Rattle.held_laws.proofs.ApartLemmas.{with_apart}
use Rattle.held_laws.proofs.OrderedLemmas.{key_order_same, apart_in_key_order, one_in_key_order, through}
use Rattle.held_laws.proofs.ReorderLemmas.{Alike, fold_both, with_alike, with_both, limit_alike, after_alike}
use Rattle.ordered_list.specs.Order.{IsInOrder}
use Rattle.record_store.specs.Holding.{IsHeldAs, rest_of}
use Rattle.record_store.specs.Ranks.{going_cmp, goings_total}
use Rattle.record_store.proofs.RestLemmas.{back, IsRest, rest_begins, rest_goes_on, rest_apart, where_is_rest, fails_first, first_go}

-- ---- what has expired goes

-- the first so many are out, and they have expired
pub record IsWithoutExpired (now : ℕ) (held rest : Held) : Type 0 where
  pub count : ℕ
  pub are_out : IsRest held count rest
  pub expired : All (λ item. is_usable now item ≡ false) (take count held.records)

pub expired_begins : (now : ℕ) (held same : Held) → same ≡ held → EachChainHasARecord held → IsWithoutExpired now held same
expired_begins now held same is each = subst (IsWithoutExpired now held) (sym is) (record {
  count = 0;
  are_out = rest_begins held each;
  expired = λ k d within. absurd (omega (arith, within));
})

take_and_one : {X : Type 0} (P : X → Type 0) (n : ℕ) (xs : List X) → All P (take n xs) → All P (take 1 (drop n xs)) → All P (take (n + 1) xs)
take_and_one P n xs first next k d within = subst P (sym (get_or-take (n + 1) xs k d (omega (arith, long)))) (by (cases_lt k n))
  where
    long : k < min (n + 1) (length xs)
    long = subst (λ l. k < l) (length-take (n + 1) xs) within

    by : (k < n) ⊎ (n ≤ k) → P (get_or xs k d)
    by (inl before) = subst P (get_or-take n xs k d before) (first k d (omega (arith, long, before, length-take n xs)))
    by (inr from) =
        let same : n + 0 ≡ k = omega (arith, long, from) in
        subst P (get_or-take 1 (drop n xs) 0 d (omega arith) ∙ (get_or-drop n xs 0 d ∙ ap (λ i. get_or xs i d) same))
        (next 0 d (omega (arith, long, from, length-take 1 (drop n xs), length-drop n xs)))

module _ (now : ℕ) (held rest : Held) (is : IsWithoutExpired now held rest) where
  pub expired_goes_on : (made : Held) → All (λ item. is_usable now item ≡ false) (take 1 rest.records) → made.records ≡ drop 1 rest.records → IsReordered (rest_of 1 rest) made → IsWithoutExpired now held made
  expired_goes_on made first records order = record {
    count = is.count + 1;
    are_out = rest_goes_on held is.count rest made is.are_out records order;
    expired = take_and_one (λ item. is_usable now item ≡ false) is.count held.records is.expired (subst (λ l. All (λ item. is_usable now item ≡ false) (take 1 l)) is.are_out.records first);
  }

  pub expired_ends : All (λ item. is_usable now item ≡ true) rest.records → IsReordered (held_where (is_usable now) held) rest
  expired_ends usable =
      where_is_rest (is_usable now) held is.count rest
      (fails_first (is_usable now) is.count held.records is.expired (subst (All (λ item. is_usable now item ≡ true)) is.are_out.records usable)) is.are_out.order

  pub expired_apart : NoneDisplaces held.records → NoneDisplaces rest.records
  expired_apart apart = rest_apart held is.count rest is.are_out apart

-- the first record's expiry is the least
rises : (one other : Record) → going_cmp one other ≡ Less → expiry_of one ≤ expiry_of other
rises one other less = by (cases_lt (expiry_of other) (expiry_of one))
  where
    by : (expiry_of other < expiry_of one) ⊎ (expiry_of one ≤ expiry_of other) → expiry_of one ≤ expiry_of other
    by (inr upto) = upto
    by (inl above) =
        let greater : Greater ≡ nat_cmp (expiry_of one) (expiry_of other) = nat_cmp_is (expiry_of one) (expiry_of other) Greater above in
        let turned : ordering_then (nat_cmp (expiry_of one) (expiry_of other)) (key_cmp one other) ≡ Greater = ap (λ o. ordering_then o (key_cmp one other)) (sym greater) in
        cc (less, turned)

module _ (now : ℕ) (xs : List Record) where
  pub all_usable : IsInOrder going_cmp xs → (x : Record) → x ≡ get_or xs 0 x → now < expiry_of x → All (λ item. is_usable now item ≡ true) xs
  all_usable order x is later k d within = (Decides-ltb now (expiry_of (get_or xs k d))).1 (by k within)
    where
      here : x ≡ get_or xs 0 d
      here = get_or_read xs 0 x (omega (arith, within)) is d

      by : (n : ℕ) → n < length xs → now < expiry_of (get_or xs n d)
      by zero within' = subst (λ item. now < expiry_of item) here later
      by (suc n) within' =
          let from = rises (get_or xs 0 d) (get_or xs (suc n) d) (order 0 (suc n) d (omega arith) within') in
          omega (arith, from, later, ap expiry_of here)

-- ---- what is too much goes

-- as many are out as are too many
pub limit_ends : (held : Held) (n : ℕ) (rest : Held) → IsRest held n rest → IsInOrder going_cmp held.records → n ≡ length held.records - most_records → IsReordered (within_limit held) rest
limit_ends held n rest is order same =
    where_is_rest (λ item. not (goes held.records item)) held n rest
    (first_go going_cmp goings_total held.records order (length held.records - most_records) ∙ ap (λ k. drop k held.records) (sym same)) is.order

-- ---- the batch's records come

pub record HasCome (held : Held) (records : List Record) (n : ℕ) (made : Held) : Type 0 where
  pub alike : Alike (fold held_with held (take n records)) made

pub come_begins : (held : Held) (records : List Record) → NoneDisplaces held.records → HasCome held records 0 held
come_begins held records apart = record {
  alike = record { apart = apart; others_apart = apart; order = record { records = λ item. (λ has. has, λ has. has); chains = λ zone. refl } };
}

module _ (held : Held) (records : List Record) (n : ℕ) (made : Held) (is : HasCome held records n made) where
  pub come_goes_on : (new : Record) (next : Held) → n < length records → slice_get records n ≡ Some new → IsReordered (held_with made new) next → NoneDisplaces next.records → HasCome held records (n + 1) next
  come_goes_on new next within at order apart = record {
    alike = subst (λ h. Alike h next) (sym step) (record {
      apart = with_apart before new is.alike.apart;
      others_apart = apart;
      order = through (held_with before new) (held_with made new) next (with_alike before made new is.alike.order) order;
    });
  }
    where
      before : Held
      before = fold held_with held (take n records)

      step : fold held_with held (take (n + 1) records) ≡ held_with before new
      step = fold_more held_with held records n new within ∙ ap (held_with before) (get_or_from_slice_get records n new new at)

  pub come_ends : length records ≤ n → IsReordered (fold held_with held records) made
  come_ends past = subst (λ l. IsReordered (fold held_with held l) made) (take_all n records past) is.alike.order

-- ---- the steps together

steps_make : (held : Held) (batch : Batch) (usable with_records made : Held) → NoneDisplaces held.records → NoneDisplaces usable.records → NoneDisplaces with_records.records
    → IsReordered (held_where (is_usable batch.now) held) usable → IsReordered (fold held_with usable batch.records) with_records → IsReordered (within_limit with_records) made → IsReordered (held_after held batch) made
steps_make held batch usable with_records made apart apart' apart'' first second third =
    through (held_after held batch) (within_limit with_records) made
    (limit_alike (fold held_with start batch.records) with_records (record {
      apart = both.apart;
      others_apart = apart'';
      order = through (fold held_with start batch.records) (fold held_with usable batch.records) with_records both.order second;
    })) third
  where
    start : Held
    start = held_where (is_usable batch.now) held

    both : Alike (fold held_with start batch.records) (fold held_with usable batch.records)
    both = fold_both Alike held_with held_with with_both start usable batch.records (record {
      apart = AllPairs-filter IsApart (is_usable batch.now) held.records apart;
      others_apart = apart';
      order = first;
    })

-- ---- in the order of keys

kept_is : (held made : Held) (batch : Batch) → NoneDisplaces held.records → NoneDisplaces made.records → IsReordered (held_after held batch) made → in_key_order made ≡ kept_after (in_key_order held) batch
kept_is held made batch apart apart' order =
    one_in_key_order made (held_after (in_key_order held) batch) apart' both.others_apart (through made (held_after held batch) (held_after (in_key_order held) batch) (back (held_after held batch) made order) both.order)
  where
    both : Alike (held_after held batch) (held_after (in_key_order held) batch)
    both = after_alike held (in_key_order held) batch (record { apart = apart; others_apart = apart_in_key_order held apart; order = key_order_same held })

pub after_is : (held : Held) (batch : Batch) (usable all made : Held) → NoneDisplaces held.records
    → IsHeldAs (held_where (is_usable batch.now) held) usable → IsHeldAs (fold held_with usable batch.records) all → IsHeldAs (within_limit all) made → in_key_order made ≡ kept_after (in_key_order held) batch
after_is held batch usable all made apart first second third =
    kept_is held made batch apart third.apart (steps_make held batch usable all made apart first.apart second.apart first.order second.order third.order)
