-- What a zone's chains are after a record comes or goes.
use Rattle.std.proofs.Common.{◌++◌, length, get_or, ℕ, ◌<◌, ◌+◌, arith, ◌≡◌, ◌≢◌, ◌↔◌, Bool, true, false, not, ◌||◌, true≢false, ◌⊎◌, inl, inr, ⊎_elim, List, [], ◌∷◌, cond, map, Contains, MatchOption, Option, Some, None, refl, sym, ◌∙◌, ap, subst}
use Rattle.std.specs.List.{flat_map, list_any}
use Rattle.std.proofs.lemmas.List.{append-nil, length-append}
use Rattle.std.proofs.lemmas.List.Elements.{All-contains, Contains-append_left, Contains-append_right, Contains-append_cases}
use Rattle.std.proofs.lemmas.Option.{same_Some}
use Rattle.facts.proofs.Lists.{here, there, first_or_there, nothing_in}
use Rattle.dname.specs.Name.{Label}
use Rattle.denial_records.specs.declared.record.Record.{Record}
use Rattle.denial_records.specs.declared.record.Record.TheVariants.{Set, Nsec, Nsec3}
use Rattle.cache_meaning.specs.Held.{ZoneChain, same_zone_chain, is_that_chain, chain_of, is_of_chain, displaces}
use Rattle.range_index.specs.Arcs.{FailInRuns}
use Rattle.zone_chains.specs.Zone.{OneChain, OneZone, chains_in, records_in, IsDenialOf, chains_with, third_for, DisplacesAt, is_of}
use Rattle.zone_chains.specs.Views.{apart_in, IsChain, IsChainOf, AreChains}
use Rattle.zone_chains.specs.Changes.{alone, joined, parted, came, DisplacesIn, went, OneHas}
use Rattle.zone_chains.specs.Chains.{chains_by, zone_by}
use Rattle.zone_chains.specs.declared.zone_chains.ZoneChains.{ZoneChains}
use Rattle.zone_chains.proofs.ChainLemmas.{apart_is, of_two_chains}
use Rattle.cache_meaning.proofs.ChainLemmas.{other_way, of_chain, is_of_it}
use Rattle.zone_chains.proofs.JoinedLemmas.{alone_is, joined_is, joined_has, parted_is, parted_has, parted_count}

abbrev listed : List OneChain → List ZoneChain
listed xs = map (λ each. each.chain) xs

abbrev held : List OneChain → List Record
held xs = flat_map (λ each. each.records) xs

-- ---- where a record of the zone is

its_chain : (each : OneChain) → IsChain each → (r : Record) → Contains each.records r → chain_of r ≡ Some each.chain
its_chain each it r has = All-contains (λ item. chain_of item ≡ Some each.chain) each.records r it.of_chain has

of_other : (one other : ZoneChain) (r : Record) → chain_of r ≡ Some one → same_zone_chain other one ≡ false → is_of_chain other r ≡ false
of_other one other r is differ = ap (is_that_chain other) is ∙ differ

in_one : (a : OneChain) (r : Record) → Contains (held (a ∷ [])) r → Contains a.records r
in_one a r has = subst (λ xs. Contains xs r) (append-nil a.records) has

is_in_one : (a : OneChain) (r : Record) → Contains a.records r → Contains (held (a ∷ [])) r
is_in_one a r has = Contains-append_left a.records [] r has

in_two : (a b : OneChain) (r : Record) → Contains (held (a ∷ b ∷ [])) r → Contains a.records r ⊎ Contains b.records r
in_two a b r has = ⊎_elim (λ h. inl h) (λ h. inr (in_one b r h)) (Contains-append_cases a.records (held (b ∷ [])) r has)

is_in_two : (a b : OneChain) (r : Record) → Contains a.records r ⊎ Contains b.records r → Contains (held (a ∷ b ∷ [])) r
is_in_two a b r (inl h) = Contains-append_left a.records (held (b ∷ [])) r h
is_in_two a b r (inr h) = Contains-append_right a.records (held (b ∷ [])) r (is_in_one b r h)

-- ---- a record comes

pub record HasCome (apex : List Label) (chain : ZoneChain) (new : Record) (xs made : List OneChain) : Type 0 where
  pub chains : AreChains apex made
  pub names : listed made ≡ chains_with (listed xs) (Some chain)
  pub members : (r : Record) → Contains (held made) r ↔ ((r ≡ new) ⊎ (Contains (held xs) r × (displaces new r ≡ false) × (is_of (third_for (listed xs) (Some chain)) r ≡ false)))

-- where no chain goes
nothing_goes : {M O D : Type 0} (new r : Record) (gone : Option ZoneChain) → gone ≡ None → M ↔ ((r ≡ new) ⊎ (O × D)) → M ↔ ((r ≡ new) ⊎ (O × D × (is_of gone r ≡ false)))
nothing_goes {M} {O} {D} new r gone none both = (λ m. there_too (both.0 m), λ h. both.1 (from h))
  where
    there_too : (r ≡ new) ⊎ (O × D) → (r ≡ new) ⊎ (O × D × (is_of gone r ≡ false))
    there_too (inl same) = inl same
    there_too (inr o) = inr (o.0, o.1, ap (λ g. is_of g r) none)

    from : (r ≡ new) ⊎ (O × D × (is_of gone r ≡ false)) → (r ≡ new) ⊎ (O × D)
    from (inl same) = inl same
    from (inr o) = inr (o.0, o.1)

or_it : (b : Bool) → b ≡ true → (b || false) ≡ true
or_it b is = rw is refl

module _ (apex : List Label) (chain : ZoneChain) (new : Record) (of_it : chain_of new ≡ Some chain) (denial : IsDenialOf apex new) where
  its_zone : (item : Record) → chain_of item ≡ Some chain → IsDenialOf apex item → chain.zone ≡ apex
  its_zone (Set set) is h = absurd h
  its_zone (Nsec nsec) is h = ap (λ (c : ZoneChain). c.zone) (sym (same_Some _ _ is)) ∙ h
  its_zone (Nsec3 nsec3) is h = ap (λ (c : ZoneChain). c.zone) (sym (same_Some _ _ is)) ∙ h

  its_own : IsChainOf apex (alone chain new)
  its_own = record { here = its_zone new of_it denial; chain = alone_is chain new of_it }

  -- whether the chain is the record's
  tested : (each : OneChain) (b : Bool) → is_of_chain each.chain new ≡ b → same_zone_chain chain each.chain ≡ b
  tested each b is = other_way chain each.chain ∙ ap (is_that_chain each.chain) (sym of_it) ∙ is

  joins : (each : OneChain) → IsChainOf apex each → is_of_chain each.chain new ≡ true → IsChainOf apex (joined new each)
  joins each it is = record { here = it.here; chain = joined_is each new it.chain (of_chain each.chain new is) }

  has_joined : (each : OneChain) → IsChain each → is_of_chain each.chain new ≡ true → (r : Record) → Contains (joined new each).records r ↔ ((r ≡ new) ⊎ (Contains each.records r × (displaces new r ≡ false)))
  has_joined each it is = joined_has each new it (of_chain each.chain new is)

  -- records of another chain stay
  spared : (each : OneChain) → IsChain each → same_zone_chain chain each.chain ≡ false → (r : Record) → Contains each.records r → displaces new r ≡ false
  spared each it differ r has = of_two_chains chain each.chain new r of_it (its_chain each it r has) differ

  -- the record's chain is the first
  differs_from : (a b : OneChain) → same_zone_chain a.chain b.chain ≡ false → is_of_chain a.chain new ≡ true → same_zone_chain chain b.chain ≡ false
  differs_from a b differ is = ap (λ c. same_zone_chain c b.chain) (same_Some _ _ (sym of_it ∙ of_chain a.chain new is)) ∙ differ

  came_none : HasCome apex chain new [] (alone chain new ∷ [])
  came_none = record {
    chains = its_own;
    names = refl;
    members = λ r. nothing_goes new r None refl ((λ h. ⊎_elim (λ same. inl same) (λ k. absurd (nothing_in r k)) (first_or_there new [] r h)), λ h. ⊎_elim (λ same. subst (λ z. Contains (z ∷ []) r) same (here r [])) (λ k. absurd (nothing_in r k.0)) h);
  }

  came_one : (a : OneChain) → IsChainOf apex a → (b : Bool) → is_of_chain a.chain new ≡ b → HasCome apex chain new (a ∷ []) (cond b (joined new a ∷ []) (alone chain new ∷ a ∷ []))
  came_one a it true is =
      let test : same_zone_chain chain a.chain ≡ true = tested a true is in
      record {
        chains = joins a it is;
        names = rw test refl;
        members = λ r. nothing_goes new r (third_for (listed (a ∷ [])) (Some chain)) (rw test refl)
            (let has = has_joined a it.chain is r in
            ((λ h. ⊎_elim (λ same. inl same) (λ k. inr (is_in_one a r k.0, k.1)) (has.0 (in_one (joined new a) r h))), λ h. is_in_one (joined new a) r (has.1 (⊎_elim (λ same. inl same) (λ k. inr (in_one a r k.0, k.1)) h))));
      }
  came_one a it false is =
      let test : same_zone_chain chain a.chain ≡ false = tested a false is in
      record {
        chains = (its_own, it, test);
        names = rw test refl;
        members = λ r. nothing_goes new r (third_for (listed (a ∷ [])) (Some chain)) (rw test refl)
            ((λ h. ⊎_elim (λ same. inl same) (λ k. inr (k, spared a it.chain test r (in_one a r k))) (first_or_there new (held (a ∷ [])) r h)), λ h. ⊎_elim (λ same. subst (λ z. Contains (z ∷ held (a ∷ [])) r) same (here r (held (a ∷ [])))) (λ k. there new (held (a ∷ [])) r k.0) h);
      }

  came_two : (a b : OneChain) → AreChains apex (a ∷ b ∷ []) → (t u : Bool) → is_of_chain a.chain new ≡ t → is_of_chain b.chain new ≡ u → HasCome apex chain new (a ∷ b ∷ []) (cond t (joined new a ∷ b ∷ []) (cond u (a ∷ joined new b ∷ []) (alone chain new ∷ a ∷ [])))
  came_two a b it true u is are =
      let test : same_zone_chain chain a.chain ≡ true = tested a true is in
      record {
        chains = (joins a it.0 is, it.1, it.2);
        names = rw test refl;
        members = λ r. nothing_goes new r (third_for (listed (a ∷ b ∷ [])) (Some chain)) (rw test refl)
            (let has = has_joined a it.0.chain is r in (
              (λ h. ⊎_elim (λ k. ⊎_elim (λ same. inl same) (λ l. inr (is_in_two a b r (inl l.0), l.1)) (has.0 k)) (λ k. inr (is_in_two a b r (inr k), spared b it.1.chain (differs_from a b it.2 is) r k)) (in_two (joined new a) b r h)),
              λ h. is_in_two (joined new a) b r (⊎_elim (λ same. inl (has.1 (inl same))) (λ k. ⊎_elim (λ l. inl (has.1 (inr (l, k.1)))) (λ l. inr l) (in_two a b r k.0)) h),
            ));
      }
  came_two a b it false true is are =
      let test : same_zone_chain chain a.chain ≡ false = tested a false is in
      let second : same_zone_chain chain b.chain ≡ true = tested b true are in
      record {
        chains = (it.0, joins b it.1 are, it.2);
        names = rw (test, second) refl;
        members = λ r. nothing_goes new r (third_for (listed (a ∷ b ∷ [])) (Some chain)) (rw (test, second) refl)
            (let has = has_joined b it.1.chain are r in (
              (λ h. ⊎_elim (λ k. inr (is_in_two a b r (inl k), spared a it.0.chain test r k)) (λ k. ⊎_elim (λ same. inl same) (λ l. inr (is_in_two a b r (inr l.0), l.1)) (has.0 k)) (in_two a (joined new b) r h)),
              λ h. is_in_two a (joined new b) r (⊎_elim (λ same. inr (has.1 (inl same))) (λ k. ⊎_elim (λ l. inl l) (λ l. inr (has.1 (inr (l, k.1)))) (in_two a b r k.0)) h),
            ));
      }
  came_two a b it false false is are =
      let test : same_zone_chain chain a.chain ≡ false = tested a false is in
      let second : same_zone_chain chain b.chain ≡ false = tested b false are in
      record {
        chains = (its_own, it.0, test);
        names = rw (test, second) refl;
        members = λ r. rw (test, second) ((λ h. ⊎_elim (λ same. inl same) (λ k. stays_in r test (in_one a r k)) (first_or_there new (held (a ∷ [])) r h)), λ h. from r h);
      }
    where
      stays_in : (r : Record) → same_zone_chain chain a.chain ≡ false → Contains a.records r → (r ≡ new) ⊎ (Contains (held (a ∷ b ∷ [])) r × (displaces new r ≡ false) × (is_of_chain b.chain r ≡ false))
      stays_in r test h = inr (is_in_two a b r (inl h), spared a it.0.chain test r h, of_other a.chain b.chain r (its_chain a it.0.chain r h) (other_way b.chain a.chain ∙ it.2))

      older : (r : Record) → is_of_chain b.chain r ≡ false → Contains a.records r ⊎ Contains b.records r → Contains a.records r
      older r other (inl h) = h
      older r other (inr h) = absurd (true≢false (sym (is_of_it b.chain r (its_chain b it.1.chain r h)) ∙ other))

      from : (r : Record) → (r ≡ new) ⊎ (Contains (held (a ∷ b ∷ [])) r × (displaces new r ≡ false) × (is_of_chain b.chain r ≡ false)) → Contains (new ∷ held (a ∷ [])) r
      from r (inl same) = subst (λ z. Contains (z ∷ held (a ∷ [])) r) same (here r (held (a ∷ [])))
      from r (inr h) = there new (held (a ∷ [])) r (is_in_one a r (older r h.2 (in_two a b r h.0)))

  pub has_come : (xs : List OneChain) → AreChains apex xs → HasCome apex chain new xs (came chain new xs)
  has_come [] it = came_none
  has_come (a ∷ []) it = came_one a it (is_of_chain a.chain new) refl
  has_come (a ∷ b ∷ []) it = came_two a b it (is_of_chain a.chain new) (is_of_chain b.chain new) refl refl
  has_come (a ∷ b ∷ c ∷ rest) it = absurd it

-- ---- a record goes

pub record HasGone (apex : List Label) (item : Record) (xs made : List OneChain) : Type 0 where
  pub chains : AreChains apex made
  pub names : listed made ≡ listed xs
  pub members : (r : Record) → Contains (held made) r ↔ (Contains (held xs) r × (r ≢ item))
  pub count : length (held made) + 1 ≡ length (held xs)

parts : (apex : List Label) (item : Record) (each : OneChain) → IsChainOf apex each → IsChainOf apex (parted item each)
parts apex item each it = record { here = it.here; chain = parted_is each item it.chain }

one_less_first : (made xs ys : List Record) → length made + 1 ≡ length xs → length (made ++ ys) + 1 ≡ length (xs ++ ys)
one_less_first made xs ys less = omega (arith, length-append made ys, length-append xs ys)

one_less_later : (xs made ys : List Record) → length made + 1 ≡ length ys → length (xs ++ (made ++ [])) + 1 ≡ length (xs ++ (ys ++ []))
one_less_later xs made ys less = rw (append-nil made, append-nil ys) (omega (arith, length-append xs made, length-append xs ys))

gone_one : (apex : List Label) (item : Record) (a : OneChain) → IsChainOf apex a → Contains (held (a ∷ [])) item → HasGone apex item (a ∷ []) (parted item a ∷ [])
gone_one apex item a it has = record {
  chains = parts apex item a it;
  names = refl;
  members = λ r.
      let are = parted_has a item it.chain (in_one a item has) r in
      ((λ h. let k = are.0 (in_one (parted item a) r h) in (is_in_one a r k.0, k.1)), λ h. is_in_one (parted item a) r (are.1 (in_one a r h.0, h.1)));
  count = let less = parted_count a item it.chain (in_one a item has) in rw (append-nil a.records, append-nil (parted item a).records) less;
}

gone_two : (apex : List Label) (item : Record) (a b : OneChain) → AreChains apex (a ∷ b ∷ []) → Contains (held (a ∷ b ∷ [])) item → (t : Bool) → is_of_chain a.chain item ≡ t → HasGone apex item (a ∷ b ∷ []) (cond t (parted item a ∷ b ∷ []) (a ∷ parted item b ∷ []))
gone_two apex item a b it has true is = record {
  chains = (parts apex item a it.0, it.1, it.2);
  names = refl;
  members = λ r.
      let are = parted_has a item it.0.chain (⊎_elim (λ h. h) (λ h. absurd (not_older item h refl)) (in_two a b item has)) r in (
        (λ h. ⊎_elim (λ k. (is_in_two a b r (inl (are.0 k).0), (are.0 k).1)) (λ k. (is_in_two a b r (inr k), λ same. not_older r k same)) (in_two (parted item a) b r h)),
        λ h. is_in_two (parted item a) b r (⊎_elim (λ k. inl (are.1 (k, h.1))) (λ k. inr k) (in_two a b r h.0)),
      );
  count = one_less_first (parted item a).records a.records (held (b ∷ [])) (parted_count a item it.0.chain (⊎_elim (λ h. h) (λ h. absurd (not_older item h refl)) (in_two a b item has)));
}
  where
    not_older : (r : Record) → Contains b.records r → r ≢ item
    not_older r h same = true≢false (sym is ∙ of_other b.chain a.chain item (ap chain_of (sym same) ∙ its_chain b it.1.chain r h) it.2)
gone_two apex item a b it has false is = record {
  chains = (it.0, parts apex item b it.1, it.2);
  names = refl;
  members = λ r.
      let are = parted_has b item it.1.chain (⊎_elim (λ h. absurd (not_newer item h refl)) (λ h. h) (in_two a b item has)) r in (
        (λ h. ⊎_elim (λ k. (is_in_two a b r (inl k), λ same. not_newer r k same)) (λ k. (is_in_two a b r (inr (are.0 k).0), (are.0 k).1)) (in_two a (parted item b) r h)),
        λ h. is_in_two a (parted item b) r (⊎_elim (λ k. inl k) (λ k. inr (are.1 (k, h.1))) (in_two a b r h.0)),
      );
  count = one_less_later a.records (parted item b).records b.records (parted_count b item it.1.chain (⊎_elim (λ h. absurd (not_newer item h refl)) (λ h. h) (in_two a b item has)));
}
  where
    not_newer : (r : Record) → Contains a.records r → r ≢ item
    not_newer r h same = true≢false (sym (is_of_it a.chain item (ap chain_of (sym same) ∙ its_chain a it.0.chain r h)) ∙ is)

pub has_gone : (apex : List Label) (item : Record) (xs : List OneChain) → AreChains apex xs → Contains (held xs) item → HasGone apex item xs (went item xs)
has_gone apex item [] it has = absurd (nothing_in item has)
has_gone apex item (a ∷ []) it has = gone_one apex item a it has
has_gone apex item (a ∷ b ∷ []) it has = gone_two apex item a b it has (is_of_chain a.chain item) refl
has_gone apex item (a ∷ b ∷ c ∷ rest) it has = absurd it

-- of which chain a held record is
pub one_has : (apex : List Label) (item : Record) (xs : List OneChain) → AreChains apex xs → Contains (held xs) item → OneHas item xs
one_has apex item [] it has = nothing_in item has
one_has apex item (a ∷ []) it has = its_chain a it.chain item (in_one a item has)
one_has apex item (a ∷ b ∷ []) it has =
    ⊎_elim (λ h. inl (its_chain a it.0.chain item h)) (λ h. inr (its_chain b it.1.chain item h)) (in_two a b item has)
one_has apex item (a ∷ b ∷ c ∷ rest) it has = absurd it

pub older_has : (a b : ZoneChain) (item : Record) → (chain_of item ≡ Some a) ⊎ (chain_of item ≡ Some b) → is_of_chain a item ≡ false → chain_of item ≡ Some b
older_has a b item (inl is) other = absurd (true≢false (sym (is_of_it a item is) ∙ other))
older_has a b item (inr is) other = is

-- ---- what a new record displaces

-- a record of any of the chains
among : (apex : List Label) (xs : List OneChain) → AreChains apex xs → (r : Record) → Contains (held xs) r → (each : OneChain) × Contains xs each × IsChain each × Contains each.records r
among apex [] it r has = absurd (nothing_in r has)
among apex (a ∷ []) it r has = (a, here a [], it.chain, in_one a r has)
among apex (a ∷ b ∷ []) it r has =
    ⊎_elim (λ h. (a, here a (b ∷ []), it.0.chain, h)) (λ h. (b, there a (b ∷ []) b (here b []), it.1.chain, h)) (in_two a b r has)
among apex (a ∷ b ∷ c ∷ rest) it r has = absurd it

-- the places of what meets the new record's arc are those of what it displaces
pub met_at : (each : OneChain) → IsChain each → (new : Record) → chain_of new ≡ Some each.chain → (from to last : ℕ) → FailInRuns (apart_in each.chain.chain new) each.records from to last → FailInRuns (λ old. not (displaces new old)) each.records from to last
met_at each it new of_it from to last runs = record {
  order = runs.order;
  between = runs.between;
  in_range = runs.in_range;
  before_from = λ k d low high. sym (same k d (omega (arith, high, runs.order, runs.between, runs.in_range))) ∙ runs.before_from k d low high;
  up_to = λ k d low high. sym (same k d (omega (arith, high, runs.between, runs.in_range))) ∙ runs.up_to k d low high;
  before_last = λ k d low high. sym (same k d (omega (arith, high, runs.in_range))) ∙ runs.before_last k d low high;
  from_last = λ k d low high. sym (same k d high) ∙ runs.from_last k d low high;
}
  where
    same : (k : ℕ) (d : Record) → k < length each.records → apart_in each.chain.chain new (get_or each.records k d) ≡ not (displaces new (get_or each.records k d))
    same k d within = apart_is each.chain.zone each.chain.chain new (get_or each.records k d) of_it (it.of_chain k d within)

-- the code asks one of the chains, changes it, and lends it
pub displaces_in : (new tested : Record) (chains : List OneChain) (each asked changed lent : OneChain) (from to last : ℕ) → Contains chains each → asked ≡ each → tested ≡ new → changed ≡ each → lent ≡ each → is_of_chain asked.chain tested ≡ true → FailInRuns (λ old. not (displaces new old)) changed.records from to last → DisplacesIn new chains lent from to last
displaces_in new tested chains each asked changed lent from to last has asks tests changes lends is runs = record {
  listed = subst (λ (e : OneChain). Contains chains e) (sym lends) has;
  its = of_chain lent.chain new ((λ i. is_of_chain ((lends ∙ sym asks) i).chain (sym tests i)) ∙ is);
  runs = subst (λ (e : OneChain). FailInRuns (λ old. not (displaces new old)) e.records from to last) (changes ∙ sym lends) runs;
}

not_any : (p : ZoneChain → Bool) (xs : List OneChain) → list_any p (listed xs) ≡ false → (each : OneChain) → Contains xs each → p each.chain ≡ false
not_any p [] is each has = absurd (nothing_in each has)
not_any p (x ∷ xs) is each has = by (p x.chain) refl is (not_any p xs)
  where
    by : (b : Bool) → p x.chain ≡ b → (b || list_any p (listed xs)) ≡ false → (list_any p (listed xs) ≡ false → (e : OneChain) → Contains xs e → p e.chain ≡ false) → p each.chain ≡ false
    by true it h rest = absurd (true≢false h)
    by false it h rest = ⊎_elim (λ same. ap (λ (e : OneChain). p e.chain) same ∙ it) (λ k. rest h each k) (first_or_there x xs each has)

pub none_met : (apex : List Label) (xs : List OneChain) → AreChains apex xs → (new : Record) → IsDenialOf apex new → list_any (λ chain. is_of_chain chain new) (listed xs) ≡ false → (old : Record) → Contains (held xs) old → displaces new old ≡ false
none_met apex xs it new denial none old has = by new denial none
  where
    place : (each : OneChain) × Contains xs each × IsChain each × Contains each.records old
    place = among apex xs it old has

    at : (r : Record) (chain : ZoneChain) → chain_of r ≡ Some chain → list_any (λ c. is_of_chain c r) (listed xs) ≡ false → displaces r old ≡ false
    at r chain is absent = of_two_chains chain place.0.chain r old is (its_chain place.0 place.2 old place.3)
        (other_way chain place.0.chain ∙ ap (is_that_chain place.0.chain) (sym is) ∙ not_any (λ c. is_of_chain c r) xs absent place.0 place.1)

    by : (r : Record) → IsDenialOf apex r → list_any (λ c. is_of_chain c r) (listed xs) ≡ false → displaces r old ≡ false
    by (Set set) h absent = absurd h
    by (Nsec nsec) h absent = at (Nsec nsec) _ refl absent
    by (Nsec3 nsec3) h absent = at (Nsec3 nsec3) _ refl absent

-- ---- by the code's parts

pub record CameTo (value : OneZone) (new : Record) (apex : List Label) (made : ZoneChains) : Type 0 where
  pub chains : AreChains apex (chains_by made)
  pub names : chains_in (zone_by apex made) ≡ chains_with (chains_in value) (chain_of new)
  pub members : (r : Record) → Contains (records_in (zone_by apex made)) r ↔ ((r ≡ new) ⊎ (Contains (records_in value) r × (displaces new r ≡ false) × (is_of (third_for (chains_in value) (chain_of new)) r ≡ false)))

abbrev HasComeBy : List Label → Record → List OneChain → List OneChain → Option ZoneChain → Type 0
HasComeBy apex new xs made of_it =
    AreChains apex made
    × (listed made ≡ chains_with (listed xs) of_it)
    × ((r : Record) → Contains (held made) r ↔ ((r ≡ new) ⊎ (Contains (held xs) r × (displaces new r ≡ false) × (is_of (third_for (listed xs) of_it) r ≡ false))))

some_chain : (apex : List Label) (new : Record) → IsDenialOf apex new → (chain : ZoneChain) × (chain_of new ≡ Some chain)
some_chain apex (Set set) h = absurd h
some_chain apex (Nsec nsec) h = (_, refl)
some_chain apex (Nsec3 nsec3) h = (_, refl)

pub came_by : (apex apex' : List Label) (old made : ZoneChains) (value : OneZone) (new : Record) → zone_by apex old ≡ value → AreChains apex (chains_by old) → apex' ≡ apex → IsDenialOf value.apex new → ((chain : ZoneChain) → chain_of new ≡ Some chain → chains_by made ≡ came chain new (chains_by old)) → CameTo value new apex' made
came_by apex apex' old made value new is it same = subst (λ (v : OneZone). IsDenialOf v.apex new → ((chain : ZoneChain) → chain_of new ≡ Some chain → chains_by made ≡ came chain new (chains_by old)) → CameTo v new apex' made) is by
  where
    by : IsDenialOf apex new → ((chain : ZoneChain) → chain_of new ≡ Some chain → chains_by made ≡ came chain new (chains_by old)) → CameTo (zone_by apex old) new apex' made
    by denial makes =
        let its = some_chain apex new denial in
        let has = has_come apex its.0 new its.1 denial (chains_by old) it in
        let all : HasComeBy apex' new (chains_by old) (chains_by made) (chain_of new) =
        subst (λ a. HasComeBy a new (chains_by old) (chains_by made) (chain_of new)) (sym same)
        (subst (λ m. HasComeBy apex new (chains_by old) m (chain_of new)) (sym (makes its.0 its.1))
        (subst (HasComeBy apex new (chains_by old) (came its.0 new (chains_by old))) (sym its.1) (has.chains, has.names, has.members))) in
        record { chains = all.0; names = all.1; members = all.2 }

pub met_by : {F : Type 0} (each : F → OneChain) (from to last : F → ℕ) (apex : List Label) (old : ZoneChains) (value : OneZone) (new : Record) → zone_by apex old ≡ value → AreChains apex (chains_by old) → IsDenialOf value.apex new → (o : Option F) → MatchOption o (list_any (λ chain. is_of_chain chain new) (listed (chains_by old)) ≡ false) (λ met. DisplacesIn new (chains_by old) (each met) (from met) (to met) (last met)) → MatchOption o ((r : Record) → Contains (records_in value) r → displaces new r ≡ false) (λ met. DisplacesAt new value (each met) (from met) (to met) (last met))
met_by {F} each from to last apex old value new is it = subst (λ (v : OneZone). IsDenialOf v.apex new → (o : Option F) → MatchOption o (list_any (λ chain. is_of_chain chain new) (listed (chains_by old)) ≡ false) (λ met. DisplacesIn new (chains_by old) (each met) (from met) (to met) (last met)) → MatchOption o ((r : Record) → Contains (records_in v) r → displaces new r ≡ false) (λ met. DisplacesAt new v (each met) (from met) (to met) (last met))) is by
  where
    by : IsDenialOf apex new → (o : Option F) → MatchOption o (list_any (λ chain. is_of_chain chain new) (listed (chains_by old)) ≡ false) (λ met. DisplacesIn new (chains_by old) (each met) (from met) (to met) (last met)) → MatchOption o ((r : Record) → Contains (held (chains_by old)) r → displaces new r ≡ false) (λ met. DisplacesAt new (zone_by apex old) (each met) (from met) (to met) (last met))
    by denial None none = none_met apex (chains_by old) it new denial none
    by denial (Some met) runs = record { listed = runs.listed; its = runs.its; runs = runs.runs }

pub record GoneTo (value : OneZone) (item : Record) (apex : List Label) (made : ZoneChains) : Type 0 where
  pub chains : AreChains apex (chains_by made)
  pub names : chains_in (zone_by apex made) ≡ chains_in value
  pub members : (r : Record) → Contains (records_in (zone_by apex made)) r ↔ (Contains (records_in value) r × (r ≢ item))
  pub count : length (records_in (zone_by apex made)) + 1 ≡ length (records_in value)

abbrev HasGoneBy : List Label → Record → List OneChain → List OneChain → Type 0
HasGoneBy apex item xs made =
    AreChains apex made × (listed made ≡ listed xs) × ((r : Record) → Contains (held made) r ↔ (Contains (held xs) r × (r ≢ item))) × (length (held made) + 1 ≡ length (held xs))

pub gone_by : (apex apex' : List Label) (old made : ZoneChains) (value : OneZone) (item : Record) → zone_by apex old ≡ value → AreChains apex (chains_by old) → apex' ≡ apex → Contains (records_in value) item → chains_by made ≡ went item (chains_by old) → GoneTo value item apex' made
gone_by apex apex' old made value item is it same = subst (λ (v : OneZone). Contains (records_in v) item → chains_by made ≡ went item (chains_by old) → GoneTo v item apex' made) is by
  where
    by : Contains (held (chains_by old)) item → chains_by made ≡ went item (chains_by old) → GoneTo (zone_by apex old) item apex' made
    by has makes =
        let gone = has_gone apex item (chains_by old) it has in
        let all : HasGoneBy apex' item (chains_by old) (chains_by made) =
        subst (λ a. HasGoneBy a item (chains_by old) (chains_by made)) (sym same)
        (subst (HasGoneBy apex item (chains_by old)) (sym makes) (gone.chains, gone.names, gone.members, gone.count)) in
        record { chains = all.0; names = all.1; members = all.2; count = all.3 }
