-- A denial record comes.
use Rattle.std.proofs.Common.{◌≡◌, ◌⊎◌, ◌↔◌, inl, inr, ⊎_elim, ◌<◌, zero, suc, Bool, true, false, List, [], ◌∷◌, cond, length, take, Contains, get_or, Option, Some, None, refl, sym, ◌∙◌, ap, subst, arith}
use Rattle.std.specs.List.{AllPairs, list_any}
use Rattle.std.proofs.lemmas.List.Elements.{All-contains, Contains-get_or}
use Rattle.std.proofs.lemmas.Option.{none-some, same_Some}
use Rattle.facts.proofs.Maps.{into_map, from_map}
use Rattle.facts.proofs.Lists.{here, here_or_there, nothing_in}
use Rattle.dname.specs.Name.{Label}
use Rattle.denial_records.specs.declared.record.Record.{Record}
use Rattle.denial_records.specs.declared.record.Record.TheVariants.{Set, Nsec, Nsec3}
use Rattle.cache_meaning.specs.Held.{Held, ZoneChain, held_with, same_zone_chain, chain_of, zone_of, is_that_chain, displaces, third_of}
use Rattle.held_laws.specs.HeldLaws.{NoneDisplaces, IsReordered}
use Rattle.held_laws.proofs.ListedLemmas.{chain_displaced}
use Rattle.ordered_list.specs.Order.{IsInOrder}
use Rattle.zone_chains.specs.Zone.{OneChain, OneZone, chains_in, records_in, IsOneZone, IsDenialOf, third_for, is_of, chains_with}
use Rattle.cache_meaning.proofs.ChainLemmas.{other_way}
use Rattle.record_store.specs.Holding.{held_in, IsZoneOf, IsTied, AreWith, AreLeft}
use Rattle.record_store.specs.Putting.{chains_for, IsZoneFor}
use Rattle.record_store.specs.Ranks.{apex_cmp}
use Rattle.record_store.proofs.PutLemmas.{Differ}
use Rattle.record_store.proofs.TiedLemmas.{IsPut, put_tied, put_reordered}
use Rattle.record_store.proofs.ZoneForLemmas.{two_for, once_for}
use Rattle.record_store.proofs.ZoneLemmas.{chain_there, chain_its, chain_all}

pub is_denial : (new : Record) → (chain_of new ≡ None → ⊥) → IsDenialOf (zone_of new) new
is_denial (Set new) some = absurd (some refl)
is_denial (Nsec new) some = refl
is_denial (Nsec3 new) some = refl

-- sets stay
spares_sets : (apex : List Label) (new item : Record) → IsDenialOf apex new → chain_of item ≡ None → displaces new item ≡ false
spares_sets apex (Set new) item denial none = absurd denial
spares_sets apex (Nsec new) (Set item) denial none = refl
spares_sets apex (Nsec new) (Nsec item) denial none = absurd (none-some _ (sym none))
spares_sets apex (Nsec new) (Nsec3 item) denial none = absurd (none-some _ (sym none))
spares_sets apex (Nsec3 new) (Set item) denial none = refl
spares_sets apex (Nsec3 new) (Nsec item) denial none = absurd (none-some _ (sym none))
spares_sets apex (Nsec3 new) (Nsec3 item) denial none = absurd (none-some _ (sym none))

of_no_chain : (o : Option ZoneChain) (item : Record) → chain_of item ≡ None → is_of o item ≡ false
of_no_chain None item none = refl
of_no_chain (Some t) item none = ap (is_that_chain t) none

-- a chain that is listed then is the new record's, or one that stays
listed_then : (chains : List ZoneChain) (new : ZoneChain) → AllPairs Differ chains → (x : ZoneChain) → Contains (chains_with chains (Some new)) x → (new ≡ x) ⊎ (Contains chains x × ((t : ZoneChain) → third_for chains (Some new) ≡ Some t → same_zone_chain t x ≡ false))
listed_then chains new once x = by (list_any (same_zone_chain new) chains)
  where
    Then : Option ZoneChain → Type 0
    Then third = (new ≡ x) ⊎ (Contains chains x × ((t : ZoneChain) → third ≡ Some t → same_zone_chain t x ≡ false))

    two : (cs : List ZoneChain) → AllPairs Differ cs → Contains (take 2 (new ∷ cs)) x → (new ≡ x) ⊎ (Contains cs x × ((t : ZoneChain) → third_of (new ∷ cs) ≡ Some t → same_zone_chain t x ≡ false))
    two [] pairs has = ⊎_elim inl (λ later. absurd (nothing_in x later)) (here_or_there new [] x has)
    two (a ∷ []) pairs has = ⊎_elim inl (λ later. inr (later, λ t is. absurd (none-some _ is))) (here_or_there new (a ∷ []) x has)
    two (a ∷ b ∷ rest) pairs has =
        ⊎_elim inl (λ later. ⊎_elim
        (λ same. inr (subst (Contains (a ∷ b ∷ rest)) same (here a (b ∷ rest)), λ t is. ((λ i. same_zone_chain (same_Some _ _ (sym is) i) (sym same i)) ∙ (other_way b a ∙ pairs zero (suc zero) a (omega arith) (omega arith)))))
        (λ more. absurd (nothing_in x more)) (here_or_there a [] x later)) (here_or_there new (a ∷ []) x has)

    by : (b : Bool) → Contains (cond b chains (take 2 (new ∷ chains))) x → (new ≡ x) ⊎ (Contains chains x × ((t : ZoneChain) → cond b None (third_of (new ∷ chains)) ≡ Some t → same_zone_chain t x ≡ false))
    by true has = inr (has, λ t is. absurd (none-some _ is))
    by false has = two chains once has

has_some : {X : Type 0} (xs : List X) (x : X) → Contains xs x → 0 < length xs
has_some xs x has = omega (arith, has.1)

module _ (goings sets : List Record) (zones : List OneZone) (tied : IsTied goings sets zones) (new : Record) (denial : IsDenialOf (zone_of new) new) (zone0 : OneZone) (is : IsZoneFor (held_in goings zones) new zone0) where
  abbrev Its : List ZoneChain
  Its = chains_for (held_in goings zones) new

  module _ (left made : List Record) (are_left : AreLeft new (third_for (chains_in zone0) (chain_of new)) goings left) (with : AreWith new left made) where
    made_has : (item : Record) → Contains made item ↔ ((item ≡ new) ⊎ (Contains goings item × (displaces new item ≡ false) × (is_of (third_for Its (chain_of new)) item ≡ false)))
    made_has item = (
      λ h. ⊎_elim inl (λ old. (let was = (are_left item).0 old in inr (was.0, was.1, ap (λ l. is_of (third_for l (chain_of new)) item) (sym is.chains) ∙ was.2))) ((with item).0 h),
      λ h. (with item).1 (⊎_elim inl (λ old. inr ((are_left item).1 (old.0, old.1, ap (λ l. is_of (third_for l (chain_of new)) item) is.chains ∙ old.2))) h),
    )

    module _ (zone : OneZone) (apex : zone.apex ≡ zone0.apex) (chains : chains_in zone ≡ chains_with (chains_in zone0) (chain_of new)) (records : (each : Record) → Contains (records_in zone) each ↔ ((each ≡ new) ⊎ (Contains (records_in zone0) each × (displaces new each ≡ false) × (is_of (third_for (chains_in zone0) (chain_of new)) each ≡ false)))) (whole : IsOneZone zone) where
      apex_is : zone.apex ≡ zone_of new
      apex_is = apex ∙ is.apex

      its : IsZoneOf made zone
      its item = (
        λ h. ⊎_elim
            (λ same. ((with item).1 (inl same), subst (λ r. IsDenialOf zone.apex r) (sym same) (subst (λ a. IsDenialOf a new) (sym apex_is) denial)))
            (λ old. (let two = (is.its item).0 old.0 in ((with item).1 (inr ((are_left item).1 (two.0, old.1, old.2))), subst (λ a. IsDenialOf a item) (sym apex) two.1))) ((records item).0 h),
        λ h. (records item).1 (⊎_elim inl (λ old. (let was = (are_left item).0 old in inr ((is.its item).1 (was.0, subst (λ a. IsDenialOf a item) apex h.1), was.1, was.2))) ((with item).0 h.0)),
      )

      chains_are : chains_in zone ≡ chains_with Its (chain_of new)
      chains_are = chains ∙ ap (λ l. chains_with l (chain_of new)) is.chains

      -- each chain has a record: the new one, or one that stays
      has_record : (each : OneChain) → Contains zone.chains each → (o : Option ZoneChain) → chain_of new ≡ o → Contains (chains_with Its o) each.chain → 0 < length each.records
      has_record each listed None none has = absurd (set_new new denial none)
        where
          set_new : (r : Record) → IsDenialOf (zone_of r) r → chain_of r ≡ None → ⊥
          set_new (Set r) d n = d
          set_new (Nsec r) d n = none-some _ (sym n)
          set_new (Nsec3 r) d n = none-some _ (sym n)
      has_record each listed (Some its_chain) of has = ⊎_elim
          (λ same. by_new (of ∙ ap (λ c. Some c) same))
          (λ old. by_old old.0 old.1) (listed_then Its its_chain (once_for (held_in goings zones) new zone0 is) each.chain has)
        where
          by_new : chain_of new ≡ Some each.chain → 0 < length each.records
          by_new of' = has_some each.records new (chain_all made zone whole its each listed new ((with new).1 (inl refl)) of')

          not_third : (item : Record) → chain_of item ≡ Some each.chain → (o : Option ZoneChain) → ((t : ZoneChain) → o ≡ Some t → same_zone_chain t each.chain ≡ false) → is_of o item ≡ false
          not_third item of' None other = refl
          not_third item of' (Some t) other = ap (is_that_chain t) of' ∙ other t refl

          by_old : Contains Its each.chain → ((t : ZoneChain) → third_for Its (Some its_chain) ≡ Some t → same_zone_chain t each.chain ≡ false) → 0 < length each.records
          by_old was other = by (displaces new item) refl
            where
              one : (c : OneChain) × Contains zone0.chains c × (c.chain ≡ each.chain)
              one = from_map (λ (c : OneChain). c.chain) zone0.chains each.chain (subst (λ l. Contains l each.chain) (sym is.chains) was)

              first : (item : Record) × Contains one.0.records item
              first = some_first one.0.records (All-contains (λ (c : OneChain). 0 < length c.records) zone0.chains one.0 is.used one.1)
                where
                  some_first : (rs : List Record) → 0 < length rs → (r : Record) × Contains rs r
                  some_first [] none = absurd (omega arith)
                  some_first (r ∷ rs) some = (r, here r rs)

              item : Record
              item = first.0

              of_item : chain_of item ≡ Some each.chain
              of_item = chain_its goings zone0 is.whole is.its one.0 one.1 item first.1 ∙ ap (λ c. Some c) one.2

              by : (b : Bool) → displaces new item ≡ b → 0 < length each.records
              by true is' = by_new (chain_displaced new item each.chain is' of_item)
              by false is' =
                  has_some each.records item (chain_all made zone whole its each listed item
                  ((made_has item).1 (inr (chain_there goings zone0 is.whole is.its one.0 one.1 item first.1, is', not_third item of_item (third_for Its (chain_of new)) (λ t is''. other t (ap (third_for Its) (sym of) ∙ is'')))))
                  of_item)

      pub denial_put : NoneDisplaces made → (zones' : List OneZone) → ((each : OneZone) → Contains zones' each ↔ ((each ≡ zone) ⊎ (Contains zones each × (each.apex ≡ zone.apex → ⊥)))) → IsInOrder apex_cmp zones' → IsPut goings zones new zone made sets zones'
      denial_put apart zones' zones_are order = record {
        apart = apart;
        records = made_has;
        sets_are = λ item. (
          λ h. (let was = (tied.sets_are item).0 h in ((made_has item).1 (inr (was.0, spares_sets (zone_of new) new item denial was.1, of_no_chain (third_for Its (chain_of new)) item was.1)), was.1)),
          λ h. (tied.sets_are item).1 (⊎_elim (λ same. absurd (set_new item same h.1)) (λ old. old.0) ((made_has item).0 h.0), h.1),
        );
        apex = apex_is;
        whole = whole;
        its = its;
        used = λ k d within. has_record (get_or zone.chains k d) (Contains-get_or zone.chains k d within) (chain_of new) refl (subst (λ l. Contains l (get_or zone.chains k d).chain) chains_are (into_map (λ (c : OneChain). c.chain) zone.chains (get_or zone.chains k d) (Contains-get_or zone.chains k d within)));
        two = two_for (held_in goings zones) new zone0 is;
        once = once_for (held_in goings zones) new zone0 is;
        chains = chains_are;
        zones_are = zones_are;
        order = order;
      }
        where
          no_set : (r : Record) → IsDenialOf (zone_of r) r → chain_of r ≡ None → ⊥
          no_set (Set r) d n = d
          no_set (Nsec r) d n = none-some _ (sym n)
          no_set (Nsec3 r) d n = none-some _ (sym n)

          set_new : (item : Record) → item ≡ new → chain_of item ≡ None → ⊥
          set_new item same none = no_set new denial (ap chain_of (sym same) ∙ none)

-- ---- by what the steps say

-- a zone with the record
abbrev pub IsZoneWith : Record → OneZone → OneZone → Type 0
IsZoneWith new zone made =
    (made.apex ≡ zone.apex) × (chains_in made ≡ chains_with (chains_in zone) (chain_of new))
    × ((each : Record) → Contains (records_in made) each ↔ ((each ≡ new) ⊎ (Contains (records_in zone) each × (displaces new each ≡ false) × (is_of (third_for (chains_in zone) (chain_of new)) each ≡ false))))

-- what is left of the records without those that go
abbrev pub AreLeftFor : Record → OneZone → List Record → List Record → Type 0
AreLeftFor new zone old left = AreLeft new (third_for (chains_in zone) (chain_of new)) old left

module _ (goings sets : List Record) (zones : List OneZone) (tied : IsTied goings sets zones) (new : Record) (denial : IsDenialOf (zone_of new) new) (held : Held) (view : held_in goings zones ≡ held) where
  pub denial_made : (zone0 : OneZone) (r : Record) → r ≡ new → IsZoneFor held r zone0
      → (left : List Record) (z : OneZone) (r' : Record) → z ≡ zone0 → r' ≡ new → AreLeftFor r' z goings left
      → (zone z' made_zone : OneZone) (r'' : Record) → z' ≡ zone0 → r'' ≡ new → zone ≡ made_zone → IsZoneWith r'' z' made_zone → (z'' : OneZone) → z'' ≡ zone → IsOneZone z''
      → (made was : List Record) → was ≡ left → AreWith new was made → NoneDisplaces made
      → (sets' : List Record) → sets' ≡ sets
      → (zones' before : List OneZone) → before ≡ zones → ((each : OneZone) → Contains zones' each ↔ ((each ≡ zone) ⊎ (Contains before each × (each.apex ≡ zone.apex → ⊥)))) → IsInOrder apex_cmp zones' → IsInOrder apex_cmp before
      → IsTied made sets' zones' × IsReordered (held_with held new) (held_in made zones')
  denial_made zone0 r same is left z r' is_zone same' are_left zone z' made_zone r'' is_zone' same'' is_made with_zone z'' is_whole whole made was is_left with apart sets' is_sets zones' before is_zones zones_are order ordered =
      let is' = subst (λ h. IsZoneFor h new zone0) (sym view) (subst (λ x. IsZoneFor held x zone0) same is) in
      let are_left' = subst (λ y. AreLeftFor new y goings left) is_zone (subst (λ x. AreLeftFor x z goings left) same' are_left) in
      let zw = subst (λ y. IsZoneWith new zone0 y) (sym is_made) (subst (λ y. IsZoneWith new y made_zone) is_zone' (subst (λ x. IsZoneWith x z' made_zone) same'' with_zone)) in
      let with' = subst (λ l. AreWith new l made) is_left with in
      let zones_are' = subst (λ l. (each : OneZone) → Contains zones' each ↔ ((each ≡ zone) ⊎ (Contains l each × (each.apex ≡ zone.apex → ⊥)))) is_zones zones_are in
      let put = denial_put goings sets zones tied new denial zone0 is' left made are_left' with' zone zw.0 zw.1 zw.2 (subst IsOneZone is_whole whole) apart zones' zones_are' order in (
        subst (λ l. IsTied made l zones') (sym is_sets) (put_tied goings sets zones tied new zone made sets zones' put),
        subst (λ h. IsReordered (held_with h new) (held_in made zones')) view (put_reordered goings sets zones tied new zone made sets zones' put (subst (IsInOrder apex_cmp) is_zones ordered)),
      )
