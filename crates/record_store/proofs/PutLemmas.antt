-- What a record makes of a held state when it comes.
use Rattle.std.proofs.Common.{◌≡◌, ◌⊎◌, ◌↔◌, inl, inr, ⊎_elim, ◌≤◌, zero, suc, ◌||◌, Bool, true, false, true≢false, not, List, [], ◌∷◌, ◌++◌, cond, length, take, filter, Contains, Option, Some, None, refl, sym, ◌∙◌, ap, subst, arith}
use Rattle.std.specs.List.{AllPairs, list_any}
use Rattle.std.proofs.lemmas.List.Elements.{All-weaker, Contains-push, Contains-push_cases, Contains-append_left, filter_passes as all_pass}
use Rattle.std.proofs.lemmas.Option.{none-some, same_Some}
use Rattle.std.proofs.lemmas.Bool.{false_from_ne_true, not-true}
use Rattle.facts.proofs.Filters.{kept, was_kept, filters_commute, filter_all}
use Rattle.facts.proofs.Lists.{here, there}
use Rattle.dname.specs.Name.{Label}
use Rattle.dname.specs.Tests.{same_name}
use Rattle.denial_records.specs.declared.record.Record.{Record}
use Rattle.denial_records.specs.declared.record.Record.TheVariants.{Set, Nsec, Nsec3}
use Rattle.cache_meaning.specs.Held.{Held, ZoneChain, same_zone_chain, chain_of, zone_of, is_of_chain, is_that_chain, displaces, third_of, without_third, with_new_chain, with_chain, held_with}
use Rattle.cache_meaning.specs.Zones.{chains_of}
use Rattle.held_laws.specs.HeldLaws.{NoneDisplaces, IsReordered}
use Rattle.held_laws.proofs.KeyOrderLemmas.{in_zone}
use Rattle.held_laws.proofs.ListLemmas.{is_found}
use Rattle.dname.proofs.SameLemmas.{name_equal, name_itself, same_names}
use Rattle.cache_meaning.proofs.ChainLemmas.{zone_chain_equal as equal, zone_chain_itself as itself, other_way}
use Rattle.held_laws.proofs.SameLemmas.{one_of_key}
use Rattle.zone_chains.specs.Zone.{chains_with, third_for, is_of}
use Rattle.record_store.specs.Putting.{chains_for}

-- ---- a new chain among others

abbrev pub Differ : ZoneChain → ZoneChain → Type 0
Differ one other = same_zone_chain one other ≡ false

not_among : {X : Type 0} (p : X → Bool) (xs : List X) (x : X) → list_any p xs ≡ false → Contains xs x → p x ≡ false
not_among p xs x none has = false_from_ne_true (p x) (λ is. true≢false (sym (is_found p xs x has is) ∙ none))

third_in : {X : Type 0} (xs : List X) (t : X) → third_of xs ≡ Some t → Contains xs t
third_in [] t is = absurd (none-some _ is)
third_in (a ∷ []) t is = absurd (none-some _ is)
third_in (a ∷ b ∷ []) t is = absurd (none-some _ is)
third_in (a ∷ b ∷ c ∷ rest) t is = subst (Contains (a ∷ b ∷ c ∷ rest)) (same_Some _ _ is) (there a (b ∷ c ∷ rest) c (there b (c ∷ rest) c (here c rest)))

pub third_behind : {X : Type 0} (x : X) (xs : List X) (t : X) → third_of (x ∷ xs) ≡ Some t → Contains xs t
third_behind x [] t is = absurd (none-some _ is)
third_behind x (a ∷ []) t is = absurd (none-some _ is)
third_behind x (a ∷ b ∷ rest) t is = subst (Contains (a ∷ b ∷ rest)) (same_Some _ _ is) (there a (b ∷ rest) b (here b rest))

keeps_two : {X : Type 0} (p : X → Bool) (a b c : X) → p a ≡ true → p b ≡ true → p c ≡ false → filter p (a ∷ b ∷ c ∷ []) ≡ a ∷ b ∷ []
keeps_two p a b c is is' is'' = rw (is, is', is'') refl

-- the new record, and those of the old that pass both tests
abbrev pub Has : Record → List Record → Option ZoneChain → List Record → Type 0
Has new records third made = (item : Record) → Contains made item ↔ ((item ≡ new) ⊎ (Contains records item × (displaces new item ≡ false) × (is_of third item ≡ false)))

module _ (held : Held) (c : ZoneChain) (apex : List Label) (its : c.zone ≡ apex) where
  abbrev Its : List ZoneChain
  Its = filter (in_zone apex) held.chains

  abbrev With : Held
  With = record { records = held.records; chains = c ∷ held.chains }

  -- of its zone alone it can be one
  any_of_zone : (chains : List ZoneChain) → list_any (same_zone_chain c) (filter (in_zone apex) chains) ≡ list_any (same_zone_chain c) chains
  any_of_zone [] = refl
  any_of_zone (x ∷ xs) = by (in_zone apex x) refl (any_of_zone xs)
    where
      by : (b : Bool) → in_zone apex x ≡ b → list_any (same_zone_chain c) (filter (in_zone apex) xs) ≡ list_any (same_zone_chain c) xs → list_any (same_zone_chain c) (cond b (x ∷ filter (in_zone apex) xs) (filter (in_zone apex) xs)) ≡ list_any (same_zone_chain c) (x ∷ xs)
      by true is rest = ap (λ b. same_zone_chain c x || b) rest
      by false is rest =
          let other : same_zone_chain c x ≡ false = false_from_ne_true (same_zone_chain c x) (λ same. true≢false (sym (same_names x.zone apex (sym (ap (λ (z : ZoneChain). z.zone) (equal c x same)) ∙ its)) ∙ is)) in
          rest ∙ ap (λ b. b || list_any (same_zone_chain c) xs) (sym other)

  first_of_zone : filter (in_zone apex) (c ∷ held.chains) ≡ c ∷ Its
  first_of_zone = ap (λ b. cond b (c ∷ Its) Its) (same_names c.zone apex its)

  its_zone : filter (in_zone c.zone) (c ∷ held.chains) ≡ c ∷ Its
  its_zone = ap (λ b. cond b (c ∷ filter (in_zone c.zone) held.chains) (filter (in_zone c.zone) held.chains)) (name_itself c.zone) ∙ ap (λ z. c ∷ filter (in_zone z) held.chains) its

  -- its zone lists it first, and two at most
  third_goes : (chains : List ZoneChain) → Its ≡ chains → length chains ≤ 2 → AllPairs Differ chains → list_any (same_zone_chain c) chains ≡ false → filter (in_zone apex) (without_third (third_of (c ∷ chains)) With).chains ≡ take 2 (c ∷ chains)
  third_goes [] is two once none = first_of_zone ∙ ap (λ l. c ∷ l) is
  third_goes (a ∷ []) is two once none = first_of_zone ∙ ap (λ l. c ∷ l) is
  third_goes (a ∷ b ∷ []) is two once none =
      filters_commute (in_zone apex) (λ x. not (same_zone_chain b x)) (c ∷ held.chains)
      ∙ ap (filter (λ x. not (same_zone_chain b x))) (first_of_zone ∙ ap (λ l. c ∷ l) is)
      ∙ keeps_two (λ x. not (same_zone_chain b x)) c a b
      (ap not (other_way b c ∙ not_among (same_zone_chain c) (a ∷ b ∷ []) b none (there a (b ∷ []) b (here b []))))
      (ap not (other_way b a ∙ once zero (suc zero) a (omega arith) (omega arith)))
      (ap not (itself b))
  third_goes (a ∷ b ∷ d ∷ rest) is two once none = absurd (omega arith)

  pub chains_here : length Its ≤ 2 → AllPairs Differ Its → filter (in_zone apex) (with_chain (Some c) held).chains ≡ chains_with Its (Some c)
  chains_here two once = by (list_any (same_zone_chain c) held.chains) refl
    where
      by : (b : Bool) → list_any (same_zone_chain c) held.chains ≡ b → filter (in_zone apex) (cond b held (with_new_chain c held)).chains ≡ cond (list_any (same_zone_chain c) Its) Its (take 2 (c ∷ Its))
      by true is = sym (ap (λ b. cond b Its (take 2 (c ∷ Its))) (any_of_zone held.chains ∙ is))
      by false is =
          let none = any_of_zone held.chains ∙ is in
          subst (λ l. filter (in_zone apex) (without_third (third_of l) With).chains ≡ take 2 (c ∷ Its)) (sym its_zone) (third_goes Its refl two once none)
          ∙ sym (ap (λ b. cond b Its (take 2 (c ∷ Its))) none)

  -- other zones list what they did
  pub chains_elsewhere : (name : List Label) → (apex ≡ name → ⊥) → filter (in_zone name) (with_chain (Some c) held).chains ≡ filter (in_zone name) held.chains
  chains_elsewhere name differ = by (list_any (same_zone_chain c) held.chains)
    where
      passed : filter (in_zone name) (c ∷ held.chains) ≡ filter (in_zone name) held.chains
      passed = ap (λ b. cond b (c ∷ filter (in_zone name) held.chains) (filter (in_zone name) held.chains)) (false_from_ne_true (same_name c.zone name) (λ same. differ (sym its ∙ name_equal c.zone name same)))

      third : (o : Option ZoneChain) → ((t : ZoneChain) → o ≡ Some t → t.zone ≡ apex) → filter (in_zone name) (without_third o With).chains ≡ filter (in_zone name) held.chains
      third None its_third = passed
      third (Some t) its_third =
          filters_commute (in_zone name) (λ x. not (same_zone_chain t x)) (c ∷ held.chains)
          ∙ filter_all (λ x. not (same_zone_chain t x)) (filter (in_zone name) (c ∷ held.chains))
          (All-weaker (λ x. in_zone name x ≡ true) (λ x. not (same_zone_chain t x) ≡ true)
          (λ x is. ap not (false_from_ne_true (same_zone_chain t x) (λ same. differ (sym (its_third t refl) ∙ (ap (λ (z : ZoneChain). z.zone) (equal t x same) ∙ name_equal x.zone name is)))))
          (filter (in_zone name) (c ∷ held.chains)) (all_pass (in_zone name) (c ∷ held.chains)))
          ∙ passed

      by : (b : Bool) → filter (in_zone name) (cond b held (with_new_chain c held)).chains ≡ filter (in_zone name) held.chains
      by true = refl
      by false =
          third (third_of (filter (in_zone c.zone) (c ∷ held.chains)))
          (λ t is. name_equal t.zone c.zone (was_kept (in_zone c.zone) (c ∷ held.chains) t (third_in (filter (in_zone c.zone) (c ∷ held.chains)) t is)).1 ∙ its)

  -- ---- the records

  third_has : (new : Record) (records : List Record) → chain_of new ≡ Some c → Has new records None held.records → (o : Option ZoneChain) → ((t : ZoneChain) → o ≡ Some t → same_zone_chain c t ≡ false) → Has new records o (without_third o With).records
  third_has new records of has None other = has
  third_has new records of has (Some t) other = λ item. (
    λ h. (let was = was_kept stays held.records item h in ⊎_elim inl (λ old. inr (old.0, old.1, not-true _ was.1)) ((has item).0 was.0)),
    λ h. ⊎_elim (λ same. kept stays held.records item ((has item).1 (inl same)) (ap not (ap (is_of_chain t) same ∙ new_stays)))
        (λ old. kept stays held.records item ((has item).1 (inr (old.0, old.1, refl))) (ap not old.2)) h,
  )
    where
      stays : Record → Bool
      stays r = not (is_of_chain t r)

      new_stays : is_of_chain t new ≡ false
      new_stays = ap (is_that_chain t) of ∙ (other_way t c ∙ other t refl)

  pub chain_has : (new : Record) (records : List Record) → chain_of new ≡ Some c → Has new records None held.records → Has new records (third_for Its (Some c)) (with_chain (Some c) held).records
  chain_has new records of has = by (list_any (same_zone_chain c) held.chains) refl
    where
      by : (b : Bool) → list_any (same_zone_chain c) held.chains ≡ b → Has new records (cond (list_any (same_zone_chain c) Its) None (third_of (c ∷ Its))) (cond b held (with_new_chain c held)).records
      by true is = subst (λ d. Has new records (cond d None (third_of (c ∷ Its))) held.records) (sym (any_of_zone held.chains ∙ is)) has
      by false is =
          let none = any_of_zone held.chains ∙ is in
          subst (λ d. Has new records (cond d None (third_of (c ∷ Its))) (with_new_chain c held).records) (sym none)
          (subst (λ l. Has new records (third_of (c ∷ Its)) (without_third (third_of l) With).records) (sym its_zone)
          (third_has new records of has (third_of (c ∷ Its)) (λ t is'. not_among (same_zone_chain c) Its t none (third_behind c Its t is'))))

-- ---- the state with the record

pub chain_zone : (item : Record) (chain : ZoneChain) → chain_of item ≡ Some chain → chain.zone ≡ zone_of item
chain_zone (Set set) chain is = absurd (none-some _ is)
chain_zone (Nsec nsec) chain is = ap (λ (c : ZoneChain). c.zone) (sym (same_Some _ _ is))
chain_zone (Nsec3 nsec3) chain is = ap (λ (c : ZoneChain). c.zone) (sym (same_Some _ _ is))

module _ (held : Held) (new : Record) where
  abbrev Placed : Held
  Placed = record { records = filter (λ old. not (displaces new old)) held.records ++ new ∷ []; chains = held.chains }

  placed_has : Has new held.records None Placed.records
  placed_has item = (
    λ h. ⊎_elim (λ old. (let was = was_kept stays held.records item old in inr (was.0, not-true _ was.1, refl))) (λ same. inl (sym same)) (Contains-push_cases (filter stays held.records) new item h),
    λ h. ⊎_elim (λ same. subst (Contains Placed.records) (sym same) (Contains-push (filter stays held.records) new))
        (λ old. Contains-append_left (filter stays held.records) (new ∷ []) item (kept stays held.records item old.0 (ap not old.1))) h,
  )
    where
      stays : Record → Bool
      stays old = not (displaces new old)

  pub held_has : Has new held.records (third_for (chains_for held new) (chain_of new)) (held_with held new).records
  held_has = by (chain_of new) refl
    where
      by : (o : Option ZoneChain) → chain_of new ≡ o → Has new held.records (third_for (chains_for held new) o) (with_chain o Placed).records
      by None is = placed_has
      by (Some c) is = chain_has Placed c (zone_of new) (chain_zone new c is) new held.records is placed_has

  pub held_chains_here : length (chains_for held new) ≤ 2 → AllPairs Differ (chains_for held new) → filter (in_zone (zone_of new)) (held_with held new).chains ≡ chains_with (chains_for held new) (chain_of new)
  held_chains_here two once = by (chain_of new) refl
    where
      by : (o : Option ZoneChain) → chain_of new ≡ o → filter (in_zone (zone_of new)) (with_chain o Placed).chains ≡ chains_with (chains_for held new) o
      by None is = refl
      by (Some c) is = chains_here Placed c (zone_of new) (chain_zone new c is) two once

  pub held_chains_elsewhere : (name : List Label) → (zone_of new ≡ name → ⊥) → filter (in_zone name) (held_with held new).chains ≡ filter (in_zone name) held.chains
  held_chains_elsewhere name differ = by (chain_of new) refl
    where
      by : (o : Option ZoneChain) → chain_of new ≡ o → filter (in_zone name) (with_chain o Placed).chains ≡ filter (in_zone name) held.chains
      by None is = refl
      by (Some c) is = chains_elsewhere Placed c (zone_of new) (chain_zone new c is) name differ

  -- the chain that goes is of the record's zone
  pub third_zone : (t : ZoneChain) → third_for (chains_for held new) (chain_of new) ≡ Some t → t.zone ≡ zone_of new
  third_zone t = by (chain_of new)
    where
      of_third : (c : ZoneChain) (b : Bool) → cond b None (third_of (c ∷ chains_for held new)) ≡ Some t → t.zone ≡ zone_of new
      of_third c true is = absurd (none-some _ is)
      of_third c false is = name_equal t.zone (zone_of new) (was_kept (in_zone (zone_of new)) held.chains t (third_behind c (chains_for held new) t is)).1

      by : (o : Option ZoneChain) → third_for (chains_for held new) o ≡ Some t → t.zone ≡ zone_of new
      by None is = absurd (none-some _ is)
      by (Some c) is = of_third c (list_any (same_zone_chain c) (chains_for held new)) is

  -- a set that is held as it is changes nothing
  pub already_there : chain_of new ≡ None → NoneDisplaces held.records → Contains held.records new → IsReordered (held_with held new) held
  already_there none apart there = record {
    records = λ item. (
      λ h. ⊎_elim (λ same. subst (Contains held.records) (sym same) there) (λ old. old.0) ((held_has item).0 h),
      λ h. (held_has item).1 (by item h (displaces new item) refl),
    );
    chains = λ zone. ap (λ o. chains_of (with_chain o Placed) zone) none;
  }
    where
      no_third : (item : Record) → is_of (third_for (chains_for held new) (chain_of new)) item ≡ false
      no_third item = ap (λ o. is_of (third_for (chains_for held new) o) item) none

      by : (item : Record) → Contains held.records item → (b : Bool) → displaces new item ≡ b → (item ≡ new) ⊎ (Contains held.records item × (displaces new item ≡ false) × (is_of (third_for (chains_for held new) (chain_of new)) item ≡ false))
      by item h true is = inl (sym (one_of_key held.records apart new item there h is))
      by item h false is = inr (h, is, no_third item)
