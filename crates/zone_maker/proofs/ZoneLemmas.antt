-- A zone with one made record more.
use Rattle.std.proofs.Common.{◌≡◌, ◌≢◌, ℕ, ◌+◌, ◌<◌, List, [], ◌∷◌, ◌++◌, map, refl, sym, ◌∙◌, ap, subst, arith}
use Rattle.std.specs.Prelude.{slice_index_or}
use Rattle.std.specs.List.{All, Contains, range_with_len}
use Rattle.std.specs.List.Sorted.{IsPermutation}
use Rattle.std.proofs.lemmas.List.Elements.{All-nil, All-cons, All-map, All-contains}
use Rattle.std.proofs.lemmas.List.FromFn.{length-range_with_len, get_or-range_with_len, map-range_with_len_more}
use Rattle.std.proofs.lemmas.List.Sorted.{IsPermutation-sym, IsPermutation-trans, IsPermutation-cons, IsPermutation-push_more, Contains-permutation}
use Rattle.dname.specs.Name.{Label, wire_of}
use Rattle.dname.specs.declared.types.TheConstants.{NS_TYPE, SOA_TYPE}
use Rattle.zone_meaning.specs.Zone.{ZoneRecord}
use Rattle.zone_meaning.specs.ZoneTable.{zone_record}
use Rattle.zone_maker.specs.Made.{made_example, name_server, name_at, kind_at, owner_in, type_in, data_in, record_in, soa_data, made_zone}
use Rattle.zone_maker.proofs.NameLemmas.{owner_gives_number, owner_is_no_apex}

abbrev soa : ZoneRecord
soa = zone_record made_example SOA_TYPE soa_data

abbrev ns : ZoneRecord
ns = zone_record made_example NS_TYPE (wire_of name_server)

-- ---- the apex's two records

pub soa_is_fresh : (owner : List Label) (octets : List ℕ) (rs : List ZoneRecord) → IsPermutation (ns ∷ []) rs → Contains rs (zone_record owner SOA_TYPE octets) → ⊥
soa_is_fresh owner octets rs moved in' =
    let r = zone_record owner SOA_TYPE octets in
    let P : ZoneRecord → Type 0 = λ (s : ZoneRecord). s.rtype ≡ NS_TYPE in
    let is : SOA_TYPE ≡ NS_TYPE = All-contains P (ns ∷ []) r (All-cons P ns [] refl (All-nil P)) (Contains-permutation rs (ns ∷ []) r (IsPermutation-sym (ns ∷ []) rs moved) in') in
    omega (arith, is)

same_record : (owner owner' : List Label) (rtype rtype' : ℕ) (octets octets' : List ℕ) → owner ≡ owner' → rtype ≡ rtype' → octets ≡ octets' → zone_record owner rtype octets ≡ zone_record owner' rtype' octets'
same_record owner owner' rtype rtype' octets octets' is is2 is3 =
    ap (λ (o : List Label). zone_record o rtype octets) is ∙ ap (λ (t : ℕ). zone_record owner' t octets) is2 ∙ ap (λ (o : List ℕ). zone_record owner' rtype' o) is3

pub servers_in : (owner : List Label) (octets : List ℕ) (none rs : List ZoneRecord) → owner ≡ made_example → octets ≡ wire_of name_server → none ≡ [] → IsPermutation (zone_record owner NS_TYPE octets ∷ none) rs → IsPermutation (ns ∷ []) rs
servers_in owner octets none rs is is2 is3 moved =
    let same : zone_record owner NS_TYPE octets ∷ none ≡ ns ∷ [] = ap (λ (r : ZoneRecord). r ∷ none) (same_record owner made_example NS_TYPE NS_TYPE octets (wire_of name_server) is refl is2) ∙ ap (λ (l : List ZoneRecord). ns ∷ l) is3 in
    subst (λ (l : List ZoneRecord). IsPermutation l rs) same moved

pub both_in : (seed : ℕ) (owner : List Label) (octets : List ℕ) (rs ss : List ZoneRecord) → owner ≡ made_example → octets ≡ soa_data → IsPermutation (ns ∷ []) rs → IsPermutation (zone_record owner SOA_TYPE octets ∷ rs) ss → IsPermutation (made_zone seed 0).records ss
both_in seed owner octets rs ss is is2 first second =
    let second' : IsPermutation (soa ∷ rs) ss = subst (λ (r : ZoneRecord). IsPermutation (r ∷ rs) ss) (same_record owner made_example SOA_TYPE SOA_TYPE octets soa_data is refl is2) second in
    IsPermutation-trans (soa ∷ ns ∷ []) (soa ∷ rs) ss (IsPermutation-cons soa (ns ∷ []) rs first) second'

-- ---- one name more

one_more : (seed i : ℕ) → (made_zone seed (i + 1)).records ≡ (made_zone seed i).records ++ record_in (kind_at i) seed i ∷ []
one_more seed i = ap (λ rs. soa ∷ ns ∷ rs) (map-range_with_len_more (λ j. record_in (kind_at j) seed j) 0 i i (omega arith))

no_such_owner : (seed i : ℕ) → i < 1000000 → All (λ (r : ZoneRecord). r.owner ≢ owner_in (kind_at i) (name_at i)) (made_zone seed i).records
no_such_owner seed i small =
    let P : ZoneRecord → Type 0 = λ (r : ZoneRecord). r.owner ≢ owner_in (kind_at i) (name_at i) in
    let rest : List ZoneRecord = map (λ j. record_in (kind_at j) seed j) (range_with_len 0 i) in
    All-cons P soa (ns ∷ rest) (λ same. owner_is_no_apex (kind_at i) i (sym same))
    (All-cons P ns rest (λ same. owner_is_no_apex (kind_at i) i (sym same))
    (All-map P (λ j. record_in (kind_at j) seed j) (range_with_len 0 i) (λ k d short same.
    let j : ℕ = slice_index_or (range_with_len 0 i) k d in
    let less : k < i = omega (arith, short, length-range_with_len 0 i) in
    let at : j ≡ 0 + k = get_or-range_with_len 0 i k d less in
    omega (arith, less, at, owner_gives_number (kind_at j) (kind_at i) j i (omega (arith, less, at, small)) small same))))

pub name_is_fresh : (seed i : ℕ) (owner : List Label) (rtype : ℕ) (octets : List ℕ) (rs : List ZoneRecord) → i < 10000 → owner ≡ owner_in (kind_at i) (name_at i) → IsPermutation (made_zone seed i).records rs → Contains rs (zone_record owner rtype octets) → ⊥
name_is_fresh seed i owner rtype octets rs small is moved in' =
    let r = zone_record owner rtype octets in
    let made : List ZoneRecord = (made_zone seed i).records in
    All-contains (λ (s : ZoneRecord). s.owner ≢ owner_in (kind_at i) (name_at i)) made r (no_such_owner seed i (omega (arith, small)))
    (Contains-permutation rs made r (IsPermutation-sym made rs moved) in') is

pub name_in : (seed i : ℕ) (owner : List Label) (rtype : ℕ) (octets : List ℕ) (rs ss : List ZoneRecord) → owner ≡ owner_in (kind_at i) (name_at i) → rtype ≡ type_in (kind_at i) → octets ≡ data_in (kind_at i) seed i → IsPermutation (made_zone seed i).records rs → IsPermutation (zone_record owner rtype octets ∷ rs) ss → IsPermutation (made_zone seed (i + 1)).records ss
name_in seed i owner rtype octets rs ss is is2 is3 first second =
    let r = record_in (kind_at i) seed i in
    let second' : IsPermutation (r ∷ rs) ss = subst (λ (s : ZoneRecord). IsPermutation (s ∷ rs) ss) (same_record owner (owner_in (kind_at i) (name_at i)) rtype (type_in (kind_at i)) octets (data_in (kind_at i) seed i) is is2 is3) second in
    subst (λ (made : List ZoneRecord). IsPermutation made ss) (sym (one_more seed i)) (IsPermutation-push_more (made_zone seed i).records rs ss r first second')
