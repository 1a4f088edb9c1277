-- What a change makes of the list of zones, and what a zone's chains have.
use Rattle.std.proofs.Common.{◌≡◌, ◌↔◌, ◌⊎◌, inl, inr, ◌+◌, Bool, true, false, true≢false, not, List, [], ◌∷◌, ◌++◌, length, get_or, map, Contains, Some, refl, subst, sym, ◌∙◌, ap, ⊎_elim, arith}
use Rattle.std.specs.List.{AllPairs, flat_map}
use Rattle.std.proofs.lemmas.List.{get_or-append-add, length-append}
use Rattle.std.proofs.lemmas.List.Elements.{All-contains, Contains-append_left, Contains-append_right, Contains-append_cases}
use Rattle.std.proofs.lemmas.List.Prefix.{front_reads}
use Rattle.dname.specs.Tests.{same_name}
use Rattle.denial_records.specs.declared.record.Record.{Record}
use Rattle.denial_records.specs.declared.record.Record.TheVariants.{Set, Nsec, Nsec3}
use Rattle.cache_meaning.specs.Held.{ZoneChain, same_zone_chain, chain_of, displaces}
use Rattle.cache_meaning.proofs.ChainLemmas.{zone_chain_itself as itself}
use Rattle.dname.proofs.SameLemmas.{name_equal, name_itself}
use Rattle.record_store.specs.Holding.{IsZoneOf}
use Rattle.dname.specs.Order.{canonical_equal, canonical_same}
use Rattle.ordered_list.specs.Order.{IsInOrder, with_entry, without_entry}
use Rattle.std.specs.Ordering.{is_eq}
use Rattle.std.proofs.lemmas.Option.{none-some, same_Some}
use Rattle.facts.proofs.Maps.{into_map}
use Rattle.facts.proofs.Pairs.{pairs_head, pairs_tail}
use Rattle.facts.proofs.Lists.{here, there, here_or_there, nothing_in}
use Rattle.ordered_list.proofs.OrderLemmas.{with_in_order, filter_in_order}
use Rattle.ordered_list.proofs.ChangeLemmas.{with_members, without_members, entry_is}
use Rattle.zone_chains.specs.Zone.{OneChain, OneZone, chains_in, records_in, IsOfItsChain, IsOneZone, IsDenialOf}
use Rattle.record_store.specs.Ranks.{apex_cmp, apexes_total}

pub zones_with : (new : OneZone) (zones made : List OneZone) → made ≡ with_entry apex_cmp new zones → (each : OneZone) → Contains made each ↔ ((each ≡ new) ⊎ (Contains zones each × (each.apex ≡ new.apex → ⊥)))
zones_with new zones made is each =
    let has = with_members apex_cmp new zones each in (
      λ h. ⊎_elim inl (λ both. inr (both.0, λ same. both.1 (canonical_same each.apex new.apex same))) (has.0 (subst (λ l. Contains l each) is h)),
      λ h. subst (λ l. Contains l each) (sym is) (has.1 (⊎_elim inl (λ both. inr (both.0, λ tie. both.1 (canonical_equal each.apex new.apex tie))) h)),
    )

pub zones_without : (gone : OneZone) (zones made : List OneZone) → made ≡ without_entry apex_cmp gone zones → (each : OneZone) → Contains made each ↔ (Contains zones each × (each.apex ≡ gone.apex → ⊥))
zones_without gone zones made is each =
    let has = without_members apex_cmp gone zones each in (
      λ h. (let both = has.0 (subst (λ l. Contains l each) is h) in (both.0, λ same. both.1 (canonical_same each.apex gone.apex same))),
      λ both. subst (λ l. Contains l each) (sym is) (has.1 (both.0, λ tie. both.1 (canonical_equal each.apex gone.apex tie))),
    )

pub zones_with_order : (new : OneZone) (zones made : List OneZone) → IsInOrder apex_cmp zones → made ≡ with_entry apex_cmp new zones → IsInOrder apex_cmp made
zones_with_order new zones made order is = subst (IsInOrder apex_cmp) (sym is) (with_in_order apex_cmp apexes_total new zones order)

pub zones_without_order : (gone : OneZone) (zones made : List OneZone) → IsInOrder apex_cmp zones → made ≡ without_entry apex_cmp gone zones → IsInOrder apex_cmp made
zones_without_order gone zones made order is = subst (IsInOrder apex_cmp) (sym is) (filter_in_order apex_cmp (λ x. not (is_eq (apex_cmp x gone))) zones order)

-- a zone that is among them takes its own place
pub zones_same : (zone : OneZone) (zones made : List OneZone) → IsInOrder apex_cmp zones → Contains zones zone → made ≡ zones → (each : OneZone) → Contains made each ↔ ((each ≡ zone) ⊎ (Contains zones each × (each.apex ≡ zone.apex → ⊥)))
zones_same zone zones made order has is each = (
  λ h. (let old = subst (λ l. Contains l each) is h in by old (same_name each.apex zone.apex) refl),
  λ h. subst (λ l. Contains l each) (sym is) (⊎_elim (λ same. subst (Contains zones) (sym same) has) (λ old. old.0) h),
)
  where
    by : Contains zones each → (b : Bool) → same_name each.apex zone.apex ≡ b → (each ≡ zone) ⊎ (Contains zones each × (each.apex ≡ zone.apex → ⊥))
    by old true is' =
        let tie = canonical_same each.apex zone.apex (name_equal each.apex zone.apex is') in
        inl (same_Some _ _ (sym (entry_is apex_cmp apexes_total zone zones order each old tie) ∙ entry_is apex_cmp apexes_total zone zones order zone has (canonical_same zone.apex zone.apex refl)))
    by old false is' = inr (old, λ same. true≢false (sym (subst (λ z. same_name each.apex z ≡ true) same (name_itself each.apex)) ∙ is'))

-- ---- the chains of a zone

module _ {X A : Type 0} (f : X → List A) where
  pub in_flat : (xs : List X) (x : X) → Contains xs x → (a : A) → Contains (f x) a → Contains (flat_map f xs) a
  in_flat [] x has a h = absurd (nothing_in x has)
  in_flat (y ∷ ys) x has a h =
      ⊎_elim (λ same. Contains-append_left (f y) (flat_map f ys) a (subst (λ z. Contains (f z) a) (sym same) h))
      (λ later. Contains-append_right (f y) (flat_map f ys) a (in_flat ys x later a h)) (here_or_there y ys x has)

  pub some_of_flat : (xs : List X) (a : A) → Contains (flat_map f xs) a → (x : X) × Contains xs x × Contains (f x) a
  some_of_flat [] a has = absurd (nothing_in a has)
  some_of_flat (y ∷ ys) a has =
      ⊎_elim (λ h. (y, here y ys, h))
      (λ h. (let one = some_of_flat ys a h in (one.0, there y ys one.0 one.1, one.2))) (Contains-append_cases (f y) (flat_map f ys) a has)

  module _ (R : A → A → Type 0) where
    pairs_left : (xs ys : List A) → AllPairs R (xs ++ ys) → AllPairs R xs
    pairs_left xs ys pairs i j d below within =
        subst (R (get_or xs i d)) (front_reads d (xs ++ ys) xs ys refl j within)
        (subst (λ z. R z (get_or (xs ++ ys) j d)) (front_reads d (xs ++ ys) xs ys refl i (omega arith)) (pairs i j d below (omega (arith, length-append xs ys))))

    pairs_right : (xs ys : List A) → AllPairs R (xs ++ ys) → AllPairs R ys
    pairs_right xs ys pairs i j d below within =
        subst (R (get_or ys i d)) (get_or-append-add xs ys j d)
        (subst (λ z. R z (get_or (xs ++ ys) (length xs + j) d)) (get_or-append-add xs ys i d) (pairs (length xs + i) (length xs + j) d (omega arith) (omega (arith, length-append xs ys))))

    pub pairs_of_flat : (xs : List X) → AllPairs R (flat_map f xs) → (x : X) → Contains xs x → AllPairs R (f x)
    pairs_of_flat [] pairs x has = absurd (nothing_in x has)
    pairs_of_flat (y ∷ ys) pairs x has =
        ⊎_elim (λ same. subst (λ z. AllPairs R (f z)) same (pairs_left (f y) (flat_map f ys) pairs))
        (λ later. pairs_of_flat ys (pairs_right (f y) (flat_map f ys) pairs) x later) (here_or_there y ys x has)

abbrev kind : OneChain → ZoneChain
kind each = each.chain

abbrev Differ : ZoneChain → ZoneChain → Type 0
Differ one other = same_zone_chain one other ≡ false

-- of one chain a zone lists the records once
pub one_chain : (chains : List OneChain) → AllPairs Differ (map kind chains) → (one other : OneChain) → Contains chains one → Contains chains other → one.chain ≡ other.chain → one ≡ other
one_chain [] once one other has has' same = absurd (nothing_in one has)
one_chain (c ∷ cs) once one other has has' same = by (here_or_there c cs one has) (here_or_there c cs other has') (one_chain cs (pairs_tail Differ (kind c) (map kind cs) once) one other)
  where
    behind : (each : OneChain) → Contains cs each → c.chain ≡ each.chain → ⊥
    behind each later equal =
        true≢false (sym (subst (λ z. same_zone_chain c.chain z ≡ true) equal (itself c.chain))
        ∙ All-contains (Differ c.chain) (map kind cs) each.chain (pairs_head Differ (kind c) (map kind cs) once) (into_map kind cs each later))

    by : (c ≡ one) ⊎ Contains cs one → (c ≡ other) ⊎ Contains cs other → (Contains cs one → Contains cs other → one.chain ≡ other.chain → one ≡ other) → one ≡ other
    by (inl is) (inl are) rest = sym is ∙ are
    by (inl is) (inr later) rest = absurd (behind other later (ap kind is ∙ same))
    by (inr later) (inl are) rest = absurd (behind one later (ap kind are ∙ sym same))
    by (inr later) (inr later') rest = rest later later' same

-- what is of a chain is a denial record of its zone
pub chain_is_denial : (chain : ZoneChain) (item : Record) → chain_of item ≡ Some chain → IsDenialOf chain.zone item
chain_is_denial chain (Set set) is = none-some _ is
chain_is_denial chain (Nsec nsec) is = ap (λ (c : ZoneChain). c.zone) (same_Some _ _ is)
chain_is_denial chain (Nsec3 nsec3) is = ap (λ (c : ZoneChain). c.zone) (same_Some _ _ is)

-- the zone's records of a chain are the chain's
pub of_its_chain : (zone : OneZone) → IsOneZone zone → (each : OneChain) → Contains zone.chains each → (item : Record) → Contains (records_in zone) item → chain_of item ≡ Some each.chain → Contains each.records item
of_its_chain zone is each listed item has of =
    let some = some_of_flat (λ (c : OneChain). c.records) zone.chains item has in
    let its_chain = All-contains (λ r. chain_of r ≡ Some some.0.chain) some.0.records item (All-contains IsOfItsChain zone.chains some.0 is.of_chain some.1) some.2 in
    let one = one_chain zone.chains is.once some.0 each some.1 listed (same_Some _ _ (sym its_chain ∙ of)) in
    subst (λ (c : OneChain). Contains c.records item) one some.2

module _ (goings : List Record) (zone : OneZone) (is : IsOneZone zone) (its : IsZoneOf goings zone) (each : OneChain) (listed : Contains zone.chains each) where
  pub chain_there : (item : Record) → Contains each.records item → Contains goings item
  chain_there item has = ((its item).0 (in_flat (λ (c : OneChain). c.records) zone.chains each listed item has)).0

  pub chain_its : (item : Record) → Contains each.records item → chain_of item ≡ Some each.chain
  chain_its item has = All-contains (λ r. chain_of r ≡ Some each.chain) each.records item (All-contains IsOfItsChain zone.chains each is.of_chain listed) has

  pub chain_once : AllPairs (λ one other. displaces one other ≡ false) each.records
  chain_once = pairs_of_flat (λ (c : OneChain). c.records) (λ one other. displaces one other ≡ false) zone.chains is.apart each listed

  pub chain_all : (item : Record) → Contains goings item → chain_of item ≡ Some each.chain → Contains each.records item
  chain_all item has of =
      let here = All-contains (λ (chain : ZoneChain). chain.zone ≡ zone.apex) (chains_in zone) each.chain is.here (into_map kind zone.chains each listed) in
      of_its_chain zone is each listed item ((its item).1 (has, subst (λ a. IsDenialOf a item) here (chain_is_denial each.chain item of))) of
