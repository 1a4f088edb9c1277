-- What goes where a denial record comes.
use Rattle.std.proofs.Common.{◌≡◌, ◌⊎◌, ◌↔◌, inl, inr, ⊎_elim, ℕ, ◌<◌, ◌≤◌, ◌||◌, Bool, true, false, true≢false, not, List, [], ◌∷◌, cond, length, get_or, Contains, Option, Some, None, refl, sym, ◌∙◌, ap, subst, arith}
use Rattle.std.specs.List.{AllPairs, list_any}
use Rattle.std.specs.Option.{MatchOption}
use Rattle.std.proofs.lemmas.Bool.Decides.{leb_tells}
use Rattle.std.proofs.lemmas.Option.{none-some, same_Some}
use Rattle.std.proofs.lemmas.Bool.{not-false, not-true}
use Rattle.denial_records.specs.declared.record.Record.{Record}
use Rattle.cache_meaning.specs.Held.{ZoneChain, same_zone_chain, chain_of, is_that_chain, is_of_chain, displaces, third_of}
use Rattle.held_laws.proofs.ApartLemmas.{displaces_either_way}
use Rattle.held_laws.proofs.ListedLemmas.{chain_displaced}
use Rattle.cache_meaning.proofs.ChainLemmas.{of_chain, is_of_it as has_chain, other_way}
use Rattle.zone_chains.specs.Zone.{OneChain, OneZone, chains_in, records_in, IsOneZone, IsDenialOf, DisplacesAt, third_for, is_of}
use Rattle.record_store.specs.Holding.{IsZoneOf, AreCleared, AreWithout, AreLeft, IsAt, AreElsewhere}
use Rattle.record_store.proofs.GoingLemmas.{displaced_is_of, one_place}
use Rattle.record_store.proofs.ZoneLemmas.{in_flat, pairs_of_flat, of_its_chain}

-- ---- what was met, if anything was

pub met_some : {F : Type 0} (each : F → OneChain) (from to last : F → ℕ) (new : Record) (zone : OneZone) (met : Option F) (found : F) → met ≡ Some found
    → MatchOption met ((old : Record) → Contains (records_in zone) old → displaces new old ≡ false) (λ f. DisplacesAt new zone (each f) (from f) (to f) (last f)) → DisplacesAt new zone (each found) (from found) (to found) (last found)
met_some {F} each from to last new zone met found is says = subst (λ (o : Option F). MatchOption o ((old : Record) → Contains (records_in zone) old → displaces new old ≡ false) (λ f. DisplacesAt new zone (each f) (from f) (to f) (last f))) is says

pub met_none : {F : Type 0} (each : F → OneChain) (from to last : F → ℕ) (new : Record) (zone : OneZone) (met : Option F) → met ≡ None
    → MatchOption met ((old : Record) → Contains (records_in zone) old → displaces new old ≡ false) (λ f. DisplacesAt new zone (each f) (from f) (to f) (last f)) → (old : Record) → Contains (records_in zone) old → displaces new old ≡ false
met_none {F} each from to last new zone met is says = subst (λ (o : Option F). MatchOption o ((old : Record) → Contains (records_in zone) old → displaces new old ≡ false) (λ f. DisplacesAt new zone (each f) (from f) (to f) (last f))) is says

-- ---- the records of a chain

pub all_gone : (records goings left : List Record) (chain : ZoneChain) → AreElsewhere records 0 (length records) goings left → ((item : Record) → Contains goings item → chain_of item ≡ Some chain → Contains records item) → ((item : Record) → Contains records item → chain_of item ≡ Some chain) → AreWithout (Some chain) goings left
all_gone records goings left chain elsewhere all its item = (
  λ h. (let two = (elsewhere item).0 h in (two.0, by two.0 two.1 (is_of_chain chain item) refl)),
  λ h. (elsewhere item).1 (h.0, λ at. true≢false (sym (has_chain chain item (its item (at.0, at.2, at.3))) ∙ h.1)),
)
  where
    by : Contains goings item → (IsAt records 0 (length records) item → ⊥) → (b : Bool) → is_of_chain chain item ≡ b → is_of_chain chain item ≡ false
    by has not_at false is = is
    by has not_at true is = let at = all item has (of_chain chain item is) in absurd (not_at (at.0, omega arith, at.1, at.2))

-- ---- what the new record displaces

differs : (chains : List ZoneChain) (new t : ZoneChain) → third_for chains (Some new) ≡ Some t → same_zone_chain new t ≡ false
differs chains new t = by chains (list_any (same_zone_chain new) chains) refl
  where
    second : (x y z : Bool) → (x || (y || z)) ≡ false → y ≡ false
    second true y z is = absurd (true≢false is)
    second false true z is = absurd (true≢false is)
    second false false z is = refl

    by : (cs : List ZoneChain) (b : Bool) → list_any (same_zone_chain new) cs ≡ b → cond b None (third_of (new ∷ cs)) ≡ Some t → same_zone_chain new t ≡ false
    by cs true any is = absurd (none-some _ is)
    by [] false any is = absurd (none-some _ is)
    by (a ∷ []) false any is = absurd (none-some _ is)
    by (a ∷ b ∷ rest) false any is = subst (λ c. same_zone_chain new c ≡ false) (same_Some _ _ is) (second (same_zone_chain new a) (same_zone_chain new b) (list_any (same_zone_chain new) rest) any)

its_chain : (new old : Record) (chain : ZoneChain) → displaces new old ≡ true → chain_of new ≡ Some chain → chain_of old ≡ Some chain
its_chain new old chain is of = chain_displaced old new chain (displaces_either_way old new ∙ is) of

-- what a record displaces isn't of the chain that goes for its own
not_of_third : (chains : List ZoneChain) (new old : Record) → displaces new old ≡ true → is_of (third_for chains (chain_of new)) old ≡ false
not_of_third chains new old is = by (chain_of new) refl
  where
    by : (o : Option ZoneChain) → chain_of new ≡ o → is_of (third_for chains o) old ≡ false
    by None of = refl
    by (Some chain) of = third (third_for chains (Some chain)) refl
      where
        third : (t : Option ZoneChain) → third_for chains (Some chain) ≡ t → is_of t old ≡ false
        third None is' = refl
        third (Some t) is' = ap (is_that_chain t) (its_chain new old chain is of) ∙ (other_way t chain ∙ differs chains chain t is')

module _ (new : Record) (zone : OneZone) (goings left : List Record) (denial : IsDenialOf zone.apex new) (its : IsZoneOf goings zone) (are : AreWithout (third_for (chains_in zone) (chain_of new)) goings left) where
  pub displaced_same : (old : Record) → displaces new old ≡ true → Contains left old ↔ Contains (records_in zone) old
  displaced_same old is = (
    λ h. (its old).1 (((are old).0 h).0, displaced_is_of zone.apex new old denial is),
    λ h. (are old).1 (((its old).0 h).0, not_of_third (chains_in zone) new old is),
  )

  pub left_are : (cleared : List Record) → AreCleared new left cleared → AreLeft new (third_for (chains_in zone) (chain_of new)) goings cleared
  left_are cleared clear item = (
    λ h. (let two = (clear item).0 h in let was = (are item).0 two.0 in (was.0, two.1, was.1)),
    λ h. (clear item).1 ((are item).1 (h.0, h.2), h.1),
  )

below_or_not : (a b : ℕ) → (a < b) ⊎ (b ≤ a)
below_or_not a b = ⊎_elim (λ h. inr h.1) (λ h. inl h.1) (leb_tells b a)

module _ (new : Record) (zone : OneZone) (whole : IsOneZone zone) (each : OneChain) (from to last : ℕ) (at : DisplacesAt new zone each from to last) (goings : List Record) (same : (old : Record) → displaces new old ≡ true → Contains goings old ↔ Contains (records_in zone) old) where
  abbrev Front : Record → Type 0
  Front item = IsAt each.records from to item

  abbrev Back : Record → Type 0
  Back item = IsAt each.records last (length each.records) item

  pub displaced_once : AllPairs (λ one other. displaces one other ≡ false) each.records
  displaced_once = pairs_of_flat (λ (c : OneChain). c.records) (λ one other. displaces one other ≡ false) zone.chains whole.apart each at.listed

  at_front : (item : Record) → Front item → displaces new item ≡ true
  at_front item front = not-false (displaces new item) (ap (λ r. not (displaces new r)) (sym front.3) ∙ at.runs.up_to front.0 item front.1 front.2)

  at_back : (item : Record) → Back item → displaces new item ≡ true
  at_back item back = not-false (displaces new item) (ap (λ r. not (displaces new r)) (sym back.3) ∙ at.runs.from_last back.0 item back.1 back.2)

  there : (item : Record) (k : ℕ) → k < length each.records → get_or each.records k item ≡ item → displaces new item ≡ true → Contains goings item
  there item k within is displaced = (same item displaced).1 (in_flat (λ (c : OneChain). c.records) zone.chains each at.listed item (k, within, is))

  pub front_there : (item : Record) → Front item → Contains goings item
  front_there item front = there item front.0 (omega (arith, front.2, at.runs.between, at.runs.in_range)) front.3 (at_front item front)

  module _ (left : List Record) (are : AreElsewhere each.records from to goings left) where
    pub back_there : (item : Record) → Back item → Contains left item
    back_there item back = (are item).1 (
      there item back.0 back.2 back.3 (at_back item back),
      λ front. one_place each.records displaced_once front.0 back.0 item (omega (arith, front.2, at.runs.between, back.1)) back.2 front.3 back.3,
    )

    pub cleared_are : (cleared : List Record) → AreElsewhere each.records last (length each.records) left cleared → AreCleared new goings cleared
    cleared_are cleared rest item = (
      λ h. (let two = (rest item).0 h in let was = (are item).0 two.0 in (was.0, by was.0 was.1 two.1 (displaces new item) refl)),
      λ h. (rest item).1 ((are item).1 (h.0, λ front. true≢false (sym (at_front item front) ∙ h.1)), λ back. true≢false (sym (at_back item back) ∙ h.1)),
    )
      where
        by : Contains goings item → (Front item → ⊥) → (Back item → ⊥) → (b : Bool) → displaces new item ≡ b → displaces new item ≡ false
        by has front back false is = is
        by has front back true is = run (below_or_not k from) (below_or_not k to) (below_or_not k last)
          where
            place : Contains each.records item
            place = of_its_chain zone whole each at.listed item ((same item is).0 has) (its_chain new item each.chain is at.its)

            k : ℕ
            k = place.0

            spared : not (displaces new (get_or each.records k item)) ≡ true → displaces new item ≡ false
            spared passes = not-true (displaces new item) (ap (λ r. not (displaces new r)) (sym place.2) ∙ passes)

            run : (k < from) ⊎ (from ≤ k) → (k < to) ⊎ (to ≤ k) → (k < last) ⊎ (last ≤ k) → displaces new item ≡ false
            run (inl before) _ _ = spared (at.runs.before_from k item (omega arith) before)
            run (inr later) (inl before) _ = absurd (front (k, later, before, place.2))
            run (inr later) (inr past) (inl before) = spared (at.runs.before_last k item past before)
            run (inr later) (inr past) (inr end) = absurd (back (k, end, place.1, place.2))

-- where the zone doesn't have its chain
pub none_gone : (new : Record) (zone : OneZone) (goings : List Record) → ((old : Record) → displaces new old ≡ true → Contains goings old ↔ Contains (records_in zone) old) → ((old : Record) → Contains (records_in zone) old → displaces new old ≡ false) → AreCleared new goings goings
none_gone new zone goings same none item = (λ has. (has, by has (displaces new item) refl), λ h. h.0)
  where
    by : Contains goings item → (b : Bool) → displaces new item ≡ b → displaces new item ≡ false
    by has false is = is
    by has true is = none item ((same item is).0 has)
