-- A set comes.
use Rattle.std.proofs.Common.{◌≡◌, ◌⊎◌, ◌↔◌, inl, inr, ⊎_elim, true, false, true≢false, List, Contains, Some, None, refl, sym, ◌∙◌, ap, subst, arith}
use Rattle.std.specs.Cmp.{IsTotalOrder}
use Rattle.std.specs.Ordering.{nat_cmp, ordering_then}
use Rattle.std.specs.declared.cmp.Ordering.{Ordering}
use Rattle.std.specs.declared.cmp.Ordering.TheVariants.{Equal}
use Rattle.std.proofs.lemmas.Bool.Decides.{Decides-eqb}
use Rattle.std.proofs.lemmas.Cmp.{nat_cmp_total, tied_itself}
use Rattle.std.proofs.lemmas.Grind.{common_steps}
use Rattle.std.proofs.lemmas.Bool.{and_parts, false_from_ne_true}
use Rattle.std.proofs.lemmas.Option.{none-some}
use Rattle.dname.specs.Name.{Label}
use Rattle.dname.specs.Order.{canonical_same}
use Rattle.denial_records.specs.declared.record.Record.{Record}
use Rattle.denial_records.specs.declared.record.Record.TheVariants.{Set, Nsec, Nsec3}
use Rattle.cache_meaning.specs.Held.{Held, chain_of, zone_of, displaces, key_cmp, held_with}
use Rattle.held_laws.specs.HeldLaws.{NoneDisplaces, IsReordered}
use Rattle.held_laws.proofs.ApartLemmas.{displaces_either_way}
use Rattle.held_laws.proofs.KeyOrderLemmas.{one_key_displaces, one_has_the_key}
use Rattle.dname.proofs.SameLemmas.{name_equal}
use Rattle.ordered_list.specs.Order.{IsInOrder, entry_at, with_entry}
use Rattle.ordered_list.proofs.ChangeLemmas.{with_members, entry_some, entry_none}
use Rattle.zone_chains.specs.Zone.{OneZone, third_for, is_of, chains_with, IsDenialOf}
use Rattle.record_store.specs.Dropping.{AreSets}
use Rattle.record_store.specs.Holding.{held_in, IsTied, AreBut, AreCleared, AreWith, IsWithApex}
use Rattle.record_store.specs.Putting.{chains_for, IsZoneFor}
use Rattle.record_store.specs.Ranks.{apex_cmp, set_cmp, keys_total}
use Rattle.record_store.proofs.MarkLemmas.{set_tied, key_tied}
use Rattle.record_store.proofs.PutLemmas.{already_there}
use Rattle.record_store.proofs.TiedLemmas.{IsPut, put_tied, put_reordered}
use Rattle.record_store.proofs.ZoneForLemmas.{found_for, none_for, two_for, once_for}

-- what a set displaces is the set of its key
set_tie : (new item : Record) → chain_of new ≡ None → displaces new item ≡ true → (chain_of item ≡ None) × (key_cmp item new ≡ Equal)
set_tie (Set new) (Set old) none is =
    let parts = and_parts _ _ is in
    let others = and_parts _ _ parts.1 in
    let zones = canonical_same old.zone new.zone (sym (name_equal new.zone old.zone parts.0)) in
    let owners = canonical_same old.owner new.owner (sym (name_equal new.owner old.owner others.0)) in
    let types = subst (λ n. nat_cmp old.rtype n ≡ Equal) (sym ((Decides-eqb new.rtype old.rtype).0 others.1)) (tied_itself nat_cmp_total old.rtype) in
    (refl, λ i. ordering_then (zones i) (ordering_then (owners i) (types i)))
set_tie (Set new) (Nsec old) none is = absurd (true≢false (sym is))
set_tie (Set new) (Nsec3 old) none is = absurd (true≢false (sym is))
set_tie (Nsec new) item none is = absurd (none-some _ (sym none))
set_tie (Nsec3 new) item none is = absurd (none-some _ (sym none))

set_is_no_denial : (apex : List Label) (new : Record) → chain_of new ≡ None → IsDenialOf apex new → ⊥
set_is_no_denial apex (Set new) none denial = denial
set_is_no_denial apex (Nsec new) none denial = none-some _ (sym none)
set_is_no_denial apex (Nsec3 new) none denial = none-some _ (sym none)

tie_turned : {X : Type 0} (cmp : X → X → Ordering) → IsTotalOrder cmp → (x y z : X) → cmp x z ≡ Equal → cmp y z ≡ Equal → cmp x y ≡ Equal
tie_turned cmp total x y z tie tie' = grind (arith, common_steps, total)

module _ (goings sets : List Record) (apart : NoneDisplaces goings) (sets_are : AreSets goings sets) (new : Record) (none : chain_of new ≡ None) where
  pub cleared_none : entry_at set_cmp new sets ≡ None → (cleared : List Record) → cleared ≡ goings → AreCleared new goings cleared
  cleared_none missed cleared same item = (
    λ h. (let old = subst (λ l. Contains l item) same h in (old, false_from_ne_true (displaces new item) (λ is. (let tie = set_tie new item none is in entry_none set_cmp new sets missed item ((sets_are item).1 (old, tie.0)) (set_tied item new tie.1))))),
    λ h. subst (λ l. Contains l item) (sym same) h.0,
  )

  pub cleared_some : (old : Record) → entry_at set_cmp new sets ≡ Some old → (cleared : List Record) → AreBut old goings cleared → AreCleared new goings cleared
  cleared_some old is cleared but item =
      let found = entry_some set_cmp new sets old is in
      let there = ((sets_are old).0 found.0).0 in (
        λ h. (let two = (but item).0 h in (two.0, false_from_ne_true (displaces new item) (λ is'. two.1 (one_has_the_key goings apart item old two.0 there (tie_turned key_cmp keys_total item old new (set_tie new item none is').1 (key_tied old new found.1)))))),
        λ h. (but item).1 (h.0, λ same. true≢false (sym (displaces_either_way new old ∙ one_key_displaces old new (key_tied old new found.1)) ∙ (ap (displaces new) (sym same) ∙ h.1))),
      )

  pub old_there : (old : Record) → entry_at set_cmp new sets ≡ Some old → Contains goings old
  old_there old is = ((sets_are old).0 (entry_some set_cmp new sets old is).0).0

module _ (goings sets : List Record) (zones : List OneZone) (tied : IsTied goings sets zones) (new : Record) (none : chain_of new ≡ None) where
  pub set_put : (zone : OneZone) → IsZoneFor (held_in goings zones) new zone → (cleared made sets' : List Record) → AreCleared new goings cleared → AreWith new cleared made → NoneDisplaces made → sets' ≡ with_entry set_cmp new sets
      → (zones' : List OneZone) → ((each : OneZone) → Contains zones' each ↔ ((each ≡ zone) ⊎ (Contains zones each × (each.apex ≡ zone.apex → ⊥)))) → IsInOrder apex_cmp zones'
      → IsPut goings zones new zone made sets' zones'
  set_put zone is cleared made sets' are with apart made_sets zones' zones_are order = record {
    apart = apart;
    records = λ item. (
      λ h. ⊎_elim inl (λ old. (let two = (are item).0 old in inr (two.0, two.1, no_third item))) ((with item).0 h),
      λ h. (with item).1 (⊎_elim inl (λ old. inr ((are item).1 (old.0, old.1))) h),
    );
    sets_are = λ item. (
      λ h. ⊎_elim (λ same. (there item (inl same), ap chain_of same ∙ none)) (λ old. (let was = (tied.sets_are item).0 old.0 in (there item (inr ((are item).1 (was.0, false_from_ne_true (displaces new item) (λ is'. old.1 (set_tied item new (set_tie new item none is').1))))), was.1))) ((with_members set_cmp new sets item).0 (subst (λ l. Contains l item) made_sets h)),
      λ h. subst (λ l. Contains l item) (sym made_sets) ((with_members set_cmp new sets item).1 (⊎_elim inl (λ old. (let two = (are item).0 old in inr ((tied.sets_are item).1 (two.0, h.1), λ tie. true≢false (sym (displaces_either_way new item ∙ one_key_displaces item new (key_tied item new tie)) ∙ two.1)))) ((with item).0 h.0))),
    );
    apex = is.apex;
    whole = is.whole;
    its = λ item. (
      λ h. (let two = (is.its item).0 h in (there item (inr ((are item).1 (two.0, false_from_ne_true (displaces new item) (λ is'. set_is_no_denial zone.apex item (set_tie new item none is').0 two.1)))), two.1)),
      λ h. ⊎_elim (λ same. absurd (set_is_no_denial zone.apex item (ap chain_of same ∙ none) h.1)) (λ old. (is.its item).1 (((are item).0 old).0, h.1)) ((with item).0 h.0),
    );
    used = is.used;
    two = two_for (held_in goings zones) new zone is;
    once = once_for (held_in goings zones) new zone is;
    chains = is.chains ∙ sym (ap (chains_with (chains_for (held_in goings zones) new)) none);
    zones_are = zones_are;
    order = order;
  }
    where
      there : (item : Record) → (item ≡ new) ⊎ Contains cleared item → Contains made item
      there item = (with item).1

      no_third : (item : Record) → is_of (third_for (chains_for (held_in goings zones) new) (chain_of new)) item ≡ false
      no_third item = ap (λ o. is_of (third_for (chains_for (held_in goings zones) new) o) item) none

  -- the same, by what the steps say
  pub set_made : (held : Held) → held_in goings zones ≡ held
      → (cleared : List Record) (r : Record) → r ≡ new → AreCleared r goings cleared
      → (made was : List Record) → was ≡ cleared → AreWith new was made → NoneDisplaces made
      → (sets' : List Record) → sets' ≡ with_entry set_cmp new sets
      → (zones' before : List OneZone) (name : List Label) → before ≡ zones → name ≡ zone_of new → IsWithApex name before zones' → IsInOrder apex_cmp zones' → IsInOrder apex_cmp before
      → IsTied made sets' zones' × IsReordered (held_with held new) (held_in made zones')
  set_made held view cleared r same are made was is_cleared with apart sets' made_sets zones' before name is_zones is_apex with_apex order ordered =
      let ordered' = subst (IsInOrder apex_cmp) is_zones ordered in
      let one = subst (λ l. IsWithApex (zone_of new) l zones') is_zones (subst (λ n. IsWithApex n before zones') is_apex with_apex) in
      let is = ⊎_elim (λ has. found_for goings sets zones tied new ordered' one.zone has one.at) (λ absent. none_for goings sets zones tied new one.zone one.at absent.0 absent.1) one.its in
      let are' = subst (λ x. AreCleared x goings cleared) same are in
      let with' = subst (λ l. AreWith new l made) is_cleared with in
      let put = set_put one.zone is cleared made sets' are' with' apart made_sets zones' one.members order in
      (put_tied goings sets zones tied new one.zone made sets' zones' put, subst (λ h. IsReordered (held_with h new) (held_in made zones')) view (put_reordered goings sets zones tied new one.zone made sets' zones' put ordered'))

  -- a set that is held as it is, by what the search for it says
  pub set_already : (held : Held) → held_in goings zones ≡ held → (sets' : List Record) → sets' ≡ sets → (like : Record) → like ≡ new → (old : Record) → entry_at set_cmp like sets' ≡ Some old → old ≡ new → IsReordered (held_with held new) held
  set_already held view sets' is_sets like is_new old found same =
      let there = old_there goings sets tied.apart tied.sets_are new none old ((λ i. entry_at set_cmp (sym is_new i) (sym is_sets i)) ∙ found) in
      subst (λ h. IsReordered (held_with h new) h) view (already_there (held_in goings zones) new none tied.apart (subst (Contains goings) same there))
