-- No held record displaces another.
use Rattle.std.proofs.Common.{◌≡◌, ℕ, Bool, true, false, not, ◌&&◌, ◌||◌, ◌==◌, List, get_or, filter, refl, sym, ◌∙◌, arith}
use Rattle.std.specs.Bool.{Decides}
use Rattle.std.specs.Cmp.Lexicographic.{slice_cmp, bytes_decides}
use Rattle.std.proofs.lemmas.Bool.{not-true}
use Rattle.std.proofs.lemmas.Bool.Decides.{Decides-eqb, same_from_decides}
use Rattle.std.proofs.lemmas.List.Elements.{All-get_or, filter_passes}
use Rattle.std.proofs.lemmas.List.Kept.{AllPairs-filter}
use Rattle.std.proofs.lemmas.List.Quantifiers.{all_pairs_push}
use Rattle.std.specs.Ordering.{nat_cmp}
use Rattle.std.specs.Str.{bytes_eq}
use Rattle.dname.specs.Name.{Label, canonical_cmp}
use Rattle.dname.specs.Arc.{arc_has}
use Rattle.dname.specs.Tests.{same_name}
use Rattle.dname.proofs.SameLemmas.{same_name_decides}
use Rattle.denial_records.specs.declared.batch.Batch.{Batch}
use Rattle.denial_records.specs.declared.record.Record.{Record}
use Rattle.denial_records.specs.declared.record.Record.TheVariants.{Set, Nsec, Nsec3}
use Rattle.cache_meaning.specs.Held.{Held, chain_of, is_usable, displaces, held_where, held_with, held_after, held_of}
use Rattle.held_laws.specs.HeldLaws.{IsApart, NoneDisplaces}
use Rattle.held_laws.proofs.KeptLemmas.{fold_keeps, held_keeps}
use Rattle.held_laws.proofs.UsableLemmas.{with_chain_keeps}

-- ---- whichever comes, it displaces the other

other_way : {X : Type 0} (test : X → X → Bool) → ((x y : X) → Decides (test x y) (x ≡ y)) → (x y : X) → test x y ≡ test y x
other_way test decides x y = same_from_decides _ _ (decides x y) (λ h. sym ((decides y x).0 h), λ same. (decides y x).1 (sym same))

names : (x y : List Label) → same_name x y ≡ same_name y x
names = other_way same_name same_name_decides

numbers : (x y : ℕ) → (x == y) ≡ (y == x)
numbers = other_way (λ x y. x == y) Decides-eqb

octets : (x y : List ℕ) → bytes_eq x y ≡ bytes_eq y x
octets = other_way bytes_eq bytes_decides

or_other_way : (a b : Bool) → (a || b) ≡ (b || a)
or_other_way true true = refl
or_other_way true false = refl
or_other_way false true = refl
or_other_way false false = refl

pub displaces_either_way : (one other : Record) → displaces one other ≡ displaces other one
displaces_either_way (Set one) (Set other) = λ i. names one.zone other.zone i && (names one.owner other.owner i && numbers one.rtype other.rtype i)
displaces_either_way (Set one) (Nsec other) = refl
displaces_either_way (Set one) (Nsec3 other) = refl
displaces_either_way (Nsec one) (Set other) = refl
displaces_either_way (Nsec one) (Nsec other) = λ i. names one.zone other.zone i && or_other_way (arc_has canonical_cmp one.owner one.next other.owner) (arc_has canonical_cmp other.owner other.next one.owner) i
displaces_either_way (Nsec one) (Nsec3 other) = refl
displaces_either_way (Nsec3 one) (Set other) = refl
displaces_either_way (Nsec3 one) (Nsec other) = refl
displaces_either_way (Nsec3 one) (Nsec3 other) = λ i. names one.zone other.zone i && ((octets one.salt other.salt i && numbers one.iterations other.iterations i) && or_other_way (arc_has (slice_cmp nat_cmp) one.hash one.next other.hash) (arc_has (slice_cmp nat_cmp) other.hash other.next one.hash) i)

-- ---- the steps

pub with_apart : (held : Held) (new : Record) → NoneDisplaces held.records → NoneDisplaces (held_with held new).records
with_apart held new apart =
    with_chain_keeps NoneDisplaces (λ test records h. AllPairs-filter IsApart test records h) (chain_of new) _
    (all_pairs_push IsApart (filter stays held.records) new (AllPairs-filter IsApart stays held.records apart) (λ k d within.
    let old : Record = get_or (filter stays held.records) k d in
    let is = not-true (displaces new old) (All-get_or (λ x. stays x ≡ true) (filter stays held.records) k d within (filter_passes stays held.records)) in
    (displaces_either_way old new ∙ is, is)))
  where
    stays : Record → Bool
    stays old = not (displaces new old)

pub after_apart : (held : Held) (batch : Batch) → NoneDisplaces held.records → NoneDisplaces (held_after held batch).records
after_apart held batch apart =
    AllPairs-filter IsApart _ _
    (fold_keeps (λ (h : Held). NoneDisplaces h.records) held_with with_apart (held_where (is_usable batch.now) held) batch.records
    (AllPairs-filter IsApart (is_usable batch.now) held.records apart))

pub all_apart : (batches : List Batch) → NoneDisplaces (held_of batches).records
all_apart = held_keeps (λ (h : Held). NoneDisplaces h.records) (λ i j d below within. absurd (omega arith)) after_apart
