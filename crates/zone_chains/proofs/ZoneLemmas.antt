-- What holds of a zone's chains.
use Rattle.std.proofs.Common.{◌≡◌, Bool, true, false, not, ◌||◌, List, [], ◌∷◌, ◌++◌, cond, filter, Contains, AllPairs, Some, refl, sym, ◌∙◌, ap, subst, arith}
use Rattle.std.specs.List.{list_any}
use Rattle.std.proofs.lemmas.List.{append-nil}
use Rattle.std.proofs.lemmas.List.Elements.{All-nil, All-cons, All-contains}
use Rattle.std.proofs.lemmas.List.Kept.{AllPairs-cons}
use Rattle.dname.specs.Name.{Label}
use Rattle.denial_records.specs.declared.record.Record.{Record}
use Rattle.denial_records.specs.declared.set_rec.SetRec.{SetRec}
use Rattle.denial_records.specs.declared.record.Record.TheVariants.{Set, Nsec, Nsec3}
use Rattle.cache_meaning.specs.Held.{ZoneChain, same_zone_chain, chain_of, is_of_chain, displaces}
use Rattle.zone_chains.specs.Zone.{OneChain, OneZone, IsOfItsChain, IsOneZone, is_new_to, has_records}
use Rattle.zone_chains.specs.Views.{IsChain, AreChains}
use Rattle.zone_chains.proofs.ListLemmas.{AllPairs-nil, AllPairs-one, AllPairs-append}
use Rattle.zone_chains.proofs.ChainLemmas.{of_two_chains, none_displaces}
use Rattle.cache_meaning.proofs.ChainLemmas.{other_way}

apart_in_one : (only : OneChain) → IsChain only → AllPairs (λ one other. displaces one other ≡ false) (only.records ++ [])
apart_in_one only it = rw append-nil (none_displaces only it)

apart_in_two : (newer older : OneChain) → IsChain newer → IsChain older → same_zone_chain newer.chain older.chain ≡ false → AllPairs (λ one other. displaces one other ≡ false) (newer.records ++ (older.records ++ []))
apart_in_two newer older it them differ =
    AllPairs-append (λ one other. displaces one other ≡ false) newer.records (older.records ++ []) (none_displaces newer it) (apart_in_one older them)
    (λ x y has has'. of_two_chains newer.chain older.chain x y
    (All-contains (λ item. chain_of item ≡ Some newer.chain) newer.records x it.of_chain has)
    (All-contains (λ item. chain_of item ≡ Some older.chain) older.records y them.of_chain (subst (λ ys. Contains ys y) (append-nil older.records) has'))
    differ)

abbrev Differ : ZoneChain → ZoneChain → Type 0
Differ one other = same_zone_chain one other ≡ false

abbrev Apart : Record → Record → Type 0
Apart one other = displaces one other ≡ false

abbrev IsHere : List Label → ZoneChain → Type 0
IsHere apex chain = chain.zone ≡ apex

one_zone : (apex : List Label) (chains : List OneChain) → AreChains apex chains → IsOneZone (record { apex = apex; chains = chains })
one_zone apex [] it = record {
  two = omega arith;
  once = AllPairs-nil Differ;
  here = All-nil (IsHere apex);
  of_chain = All-nil IsOfItsChain;
  apart = AllPairs-nil Apart;
}
one_zone apex (only ∷ []) it = record {
  two = omega arith;
  once = AllPairs-one Differ only.chain;
  here = All-cons (IsHere apex) only.chain [] it.here (All-nil (IsHere apex));
  of_chain = All-cons IsOfItsChain only [] it.chain.of_chain (All-nil IsOfItsChain);
  apart = apart_in_one only it.chain;
}
one_zone apex (newer ∷ older ∷ []) it = record {
  two = omega arith;
  once = AllPairs-cons Differ newer.chain (older.chain ∷ []) (All-cons (Differ newer.chain) older.chain [] it.2 (All-nil (Differ newer.chain))) (AllPairs-one Differ older.chain);
  here = All-cons (IsHere apex) newer.chain (older.chain ∷ []) it.0.here (All-cons (IsHere apex) older.chain [] it.1.here (All-nil (IsHere apex)));
  of_chain = All-cons IsOfItsChain newer (older ∷ []) it.0.chain.of_chain (All-cons IsOfItsChain older [] it.1.chain.of_chain (All-nil IsOfItsChain));
  apart = apart_in_two newer older it.0.chain it.1.chain it.2;
}
one_zone apex (newer ∷ older ∷ third ∷ rest) it = absurd it

pub is_one_zone : (zone : OneZone) → AreChains zone.apex zone.chains → IsOneZone zone
is_one_zone zone are = one_zone zone.apex zone.chains are

-- those that have records
pub held_chains : (apex : List Label) (xs : List OneChain) → AreChains apex xs → AreChains apex (filter has_records xs)
held_chains apex [] it = it
held_chains apex (only ∷ []) it = elim (has_records only) as (λ b. AreChains apex (cond b (only ∷ []) [])) [ true ↦ it | false ↦ tt ]
held_chains apex (newer ∷ older ∷ []) it =
    elim (has_records newer) as (λ b. AreChains apex (cond b (newer ∷ filter has_records (older ∷ [])) (filter has_records (older ∷ [])))) [
      | true ↦ elim (has_records older) as (λ b. AreChains apex (newer ∷ cond b (older ∷ []) [])) [ true ↦ it | false ↦ it.0 ]
      | false ↦ held_chains apex (older ∷ []) it.1
    ]
held_chains apex (newer ∷ older ∷ third ∷ rest) it = absurd it

-- ---- whether a chain is among them

any_other_way : (new : ZoneChain) (chains : List ZoneChain) → list_any (λ chain. same_zone_chain chain new) chains ≡ list_any (same_zone_chain new) chains
any_other_way new [] = refl
any_other_way new (chain ∷ chains) = λ i. other_way chain new i || any_other_way new chains i

pub is_not : (a b : Bool) → a ≡ not b → b ≡ not a
is_not a true is = sym (ap not is)
is_not a false is = sym (ap not is)

pub new_is : (chains : List ZoneChain) (item : Record) (listed : Bool) → listed ≡ list_any (λ chain. is_of_chain chain item) chains → ((set : SetRec) → item ≡ Set set → ⊥) → not listed ≡ is_new_to chains (chain_of item)
new_is chains (Set set) listed is none = absurd (none set refl)
new_is chains (Nsec nsec) listed is none = ap not (is ∙ any_other_way _ chains)
new_is chains (Nsec3 nsec3) listed is none = ap not (is ∙ any_other_way _ chains)
