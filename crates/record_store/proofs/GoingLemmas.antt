-- What changes make of the records in the order in which they go.
use Rattle.std.proofs.Common.{◌≡◌, ◌≢◌, ◌⊎◌, inl, inr, ⊎_elim, ℕ, ◌+◌, ◌<◌, ◌≤◌, Bool, true, false, true≢false, not, List, [], length, get_or, drop, Contains, refl, sym, ◌∙◌, ap, subst, arith}
use Rattle.std.specs.List.{AllPairs}
use Rattle.std.specs.Ordering.{is_eq, ordering_then}
use Rattle.std.specs.declared.cmp.Ordering.{Ordering}
use Rattle.std.specs.declared.cmp.Ordering.TheVariants.{Less, Equal, Greater}
use Rattle.std.proofs.lemmas.Cmp.{tied_itself}
use Rattle.std.proofs.lemmas.List.{get_or_default}
use Rattle.std.proofs.lemmas.Bool.Decides.{leb_tells}
use Rattle.std.proofs.lemmas.List.Elements.{Contains-get_or}
use Rattle.std.proofs.lemmas.List.Kept.{AllPairs-filter}
use Rattle.std.proofs.lemmas.Bool.{and_parts}
use Rattle.dname.specs.Name.{Label}
use Rattle.denial_records.specs.declared.record.Record.{Record}
use Rattle.denial_records.specs.declared.record.Record.TheVariants.{Set, Nsec, Nsec3}
use Rattle.cache_meaning.specs.Held.{displaces, key_cmp}
use Rattle.held_laws.specs.HeldLaws.{IsApart, NoneDisplaces}
use Rattle.held_laws.proofs.ApartLemmas.{displaces_either_way}
use Rattle.held_laws.proofs.KeyOrderLemmas.{one_key_displaces, one_has_the_key}
use Rattle.dname.proofs.SameLemmas.{name_equal}
use Rattle.held_laws.proofs.SameLemmas.{one_of_key}
use Rattle.ordered_list.specs.Order.{IsInOrder, with_entry, without_entry}
use Rattle.ordered_list.proofs.ChangeLemmas.{with_members, without_members}
use Rattle.ordered_list.proofs.OrderLemmas.{with_in_order, no_duplicates}
use Rattle.zone_chains.specs.Zone.{IsDenialOf}
use Rattle.record_store.specs.Holding.{AreGoings, AreBut, AreWith, IsAt, AreElsewhere}
use Rattle.record_store.specs.Ranks.{going_cmp, goings_total, keys_total}
use Rattle.record_store.proofs.RestLemmas.{pairs_dropped}

-- ---- one record less, one record more

tied_keys : (one other : Record) → going_cmp one other ≡ Equal → key_cmp one other ≡ Equal
tied_keys one other tie = by _ _ tie
  where
    by : (a b : Ordering) → ordering_then a b ≡ Equal → b ≡ Equal
    by Less b is = cc
    by Equal b is = is
    by Greater b is = cc

tied_same : (one other : Record) → one ≡ other → going_cmp one other ≡ Equal
tied_same one other same = subst (λ r. going_cmp one r ≡ Equal) same (tied_itself goings_total one)

pub displaces_itself : (item : Record) → displaces item item ≡ true
displaces_itself item = one_key_displaces item item (tied_itself keys_total item)

pub no_goings : AreGoings []
no_goings = record { in_order = λ i j d below within. absurd (omega arith); apart = λ i j d below within. absurd (omega arith) }

module _ (gone : Record) (goings made : List Record) (is : made ≡ without_entry going_cmp gone goings) (are : AreGoings goings) where
  pub goings_but : Contains goings gone → AreBut gone goings made
  goings_but there item =
      let has = without_members going_cmp gone goings item in (
        λ h. (let two = has.0 (subst (λ l. Contains l item) is h) in (two.0, λ same. two.1 (tied_same item gone same))),
        λ h. subst (λ l. Contains l item) (sym is) (has.1 (h.0, λ tie. h.1 (one_has_the_key goings are.apart item gone h.0 there (tied_keys item gone tie)))),
      )

  pub goings_without : AreGoings made
  goings_without = subst AreGoings (sym is) (record {
    in_order = AllPairs-filter (λ x y. going_cmp x y ≡ Less) stays goings are.in_order;
    apart = AllPairs-filter IsApart stays goings are.apart;
  })
    where
      stays : Record → Bool
      stays x = not (is_eq (going_cmp x gone))

-- all but the first
pub goings_dropped : (goings made : List Record) → made ≡ drop 1 goings → AreGoings goings → AreGoings made
goings_dropped goings made is are = subst AreGoings (sym is) (record {
  in_order = pairs_dropped (λ x y. going_cmp x y ≡ Less) 1 goings are.in_order;
  apart = pairs_dropped IsApart 1 goings are.apart;
})

-- two different records of which none displaces the other
apart_two : (xs : List Record) → NoneDisplaces xs → (x y : Record) → Contains xs x → Contains xs y → x ≢ y → displaces x y ≡ false
apart_two xs apart x y has has' differ = by (displaces x y) refl
  where
    by : (b : Bool) → displaces x y ≡ b → displaces x y ≡ false
    by true is = absurd (differ (one_of_key xs apart x y has has' is))
    by false is = is

apart_all : (xs : List Record) → IsInOrder going_cmp xs → ((x y : Record) → Contains xs x → Contains xs y → x ≢ y → displaces x y ≡ false) → NoneDisplaces xs
apart_all xs order two i j d before within =
    let x = get_or xs i d in
    let y = get_or xs j d in
    let has = Contains-get_or xs i d (omega arith) in
    let has' = Contains-get_or xs j d within in
    let differ = no_duplicates going_cmp goings_total xs order i j d before within in
    (two x y has has' differ, two y x has' has (λ same. differ (sym same)))

module _ (new : Record) (goings made : List Record) (is : made ≡ with_entry going_cmp new goings) (none : (item : Record) → Contains goings item → displaces new item ≡ false) where
  pub goings_with : AreWith new goings made
  goings_with item =
      let has = with_members going_cmp new goings item in (
        λ h. ⊎_elim inl (λ two. inr two.0) (has.0 (subst (λ l. Contains l item) is h)),
        λ h. subst (λ l. Contains l item) (sym is) (has.1 (⊎_elim inl (λ old. inr (
          old,
          λ tie.
              true≢false (sym (one_key_displaces item new (tied_keys item new tie)) ∙ (displaces_either_way item new ∙ none item old)),
        )) h)),
      )

  pub goings_with_are : AreGoings goings → AreGoings made
  goings_with_are are = record {
    in_order = order;
    apart = apart_all made order (λ x y has has' differ. by x y ((goings_with x).0 has) ((goings_with y).0 has') differ);
  }
    where
      order : IsInOrder going_cmp made
      order = subst (IsInOrder going_cmp) (sym is) (with_in_order going_cmp goings_total new goings are.in_order)

      by : (x y : Record) → (x ≡ new) ⊎ Contains goings x → (y ≡ new) ⊎ Contains goings y → x ≢ y → displaces x y ≡ false
      by x y (inl one) (inl other) differ = absurd (differ (one ∙ sym other))
      by x y (inl one) (inr old) differ = subst (λ r. displaces r y ≡ false) (sym one) (none y old)
      by x y (inr old) (inl one) differ = subst (λ r. displaces x r ≡ false) (sym one) (displaces_either_way x new ∙ none x old)
      by x y (inr old) (inr old') differ = apart_two goings are.apart x y old old' differ

-- ---- without what a denial record displaces

-- what a denial record displaces is a denial record of its zone
pub displaced_is_of : (apex : List Label) (new old : Record) → IsDenialOf apex new → displaces new old ≡ true → IsDenialOf apex old
displaced_is_of apex (Set new) old denial is = absurd denial
displaced_is_of apex (Nsec new) (Set old) denial is = absurd (true≢false (sym is))
displaced_is_of apex (Nsec new) (Nsec old) denial is = sym (name_equal new.zone old.zone (and_parts _ _ is).0) ∙ denial
displaced_is_of apex (Nsec new) (Nsec3 old) denial is = absurd (true≢false (sym is))
displaced_is_of apex (Nsec3 new) (Set old) denial is = absurd (true≢false (sym is))
displaced_is_of apex (Nsec3 new) (Nsec old) denial is = absurd (true≢false (sym is))
displaced_is_of apex (Nsec3 new) (Nsec3 old) denial is = sym (name_equal new.zone old.zone (and_parts _ _ is).0) ∙ denial

-- ---- without the records of a chain at some places

-- those from a place up to another are out
pub taking_begins : (records goings : List Record) (from : ℕ) → AreElsewhere records from from goings goings
taking_begins records goings from item = (λ has. (has, λ at. omega (arith, at.1, at.2)), λ h. h.0)

-- a record stands at one place
pub one_place : (records : List Record) → AllPairs (λ one other. displaces one other ≡ false) records → (i j : ℕ) (x : Record) → i < j → j < length records → get_or records i x ≡ x → get_or records j x ≡ x → ⊥
one_place records apart i j x before within one other =
    true≢false (sym (displaces_itself x) ∙ ((λ k. displaces (sym one k) (sym other k)) ∙ apart i j x before within))

module _ (records goings left : List Record) (from n : ℕ) (now : AreElsewhere records from n goings left) where
  pub taking_there : AllPairs (λ one other. displaces one other ≡ false) records → (x : Record) → n < length records → x ≡ get_or records n x → Contains goings x → Contains left x
  taking_there apart x within is there = (now x).1 (there, λ at. one_place records apart at.0 n x at.2 within at.3 (sym is))

  pub taking_goes_on : (x : Record) (left' : List Record) → from ≤ n → n < length records → x ≡ get_or records n x → AreBut x left left' → AreElsewhere records from (n + 1) goings left'
  taking_goes_on x left' begun within is but item = (
    λ h. (let two = (but item).0 h in let old = (now item).0 two.0 in (old.0, λ at. by item old.1 two.1 at (below_or_not at.0 n))),
    λ h. (but item).1 ((now item).1 (h.0, λ at. h.1 (at.0, at.1, omega (arith, at.2), at.3)), λ same. h.1 (n, begun, omega arith, subst (λ r. get_or records n r ≡ r) (sym same) (sym is))),
  )
    where
      below_or_not : (a b : ℕ) → (a < b) ⊎ (b ≤ a)
      below_or_not a b = ⊎_elim (λ h. inr h.1) (λ h. inl h.1) (leb_tells b a)

      at_last : (item : Record) (k : ℕ) → k ≡ n → get_or records k item ≡ item → item ≡ x
      at_last item k same at = sym at ∙ (ap (λ j. get_or records j item) same ∙ (get_or_default records n item x within ∙ sym is))

      by : (item : Record) → (IsAt records from n item → ⊥) → (item ≡ x → ⊥) → (at : IsAt records from (n + 1) item) → (at.0 < n) ⊎ (n ≤ at.0) → ⊥
      by item earlier other at (inl before) = earlier (at.0, at.1, before, at.3)
      by item earlier other at (inr later) = other (at_last item at.0 (omega (arith, at.2)) at.3)
