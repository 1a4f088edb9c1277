-- Octets are the data of one record only.
use Rattle.std.proofs.Common.{◌≡◌, ℕ, ◌+◌, ◌≤◌, List, length, take, drop, slice_index, Result, Ok, Err, refl, sym, ◌∙◌, ap, subst, arith}
use Rattle.dname.specs.Read.{Spells}
use Rattle.byteorder.specs.Endian.{big_number}
use Rattle.denial_records.specs.TypeSet.{IsTypeMap, IsNoTypeMap}
use Rattle.denial_records.specs.Rrsig.{IsRrsig}
use Rattle.denial_records.specs.NsecParts as nsec
use Rattle.denial_records.specs.Nsec3Parts as nsec3
use Rattle.denial_records.specs.declared.rrsig.Rrsig.{Rrsig}
use Rattle.denial_records.specs.declared.nsec_parts.NsecParts.{NsecParts}
use Rattle.denial_records.specs.declared.nsec3_parts.Nsec3Parts.{Nsec3Parts}
use Rattle.denial_records.specs.declared.type_set.MapFault.{MapFault}
use Rattle.denial_records.specs.declared.type_set.MapFault.TheVariants.{BadMap, OutOfMemory}
use Rattle.denial_records.proofs.TypeSetLemmas.{one_meaning}

-- ---- results

pub ok_is_no_err : {T E : Type 0} {x : T} {e : E} → Ok x ≡ Err e → ⊥
ok_is_no_err same = cc

-- what a reading that took memory for its map may give instead
pub not_bad : (fault : MapFault) → fault ≡ OutOfMemory → fault ≡ BadMap → ⊥
not_bad fault is other = cc

pub err_same : {T E : Type 0} (e f : E) → (let a : Result T E = Err e in let b : Result T E = Err f in a ≡ b) → e ≡ f
err_same e f same = cc

pub ok_same : {T E : Type 0} (x y : T) → (let a : Result T E = Ok x in let b : Result T E = Ok y in a ≡ b) → x ≡ y
ok_same x y same = cc

-- ---- RRSIG

pub one_rrsig : (octets : List ℕ) (a b : Rrsig) → IsRrsig octets a → IsRrsig octets b → a.signer ≡ b.signer → a ≡ b
one_rrsig octets a b is is' same =
    let p0 = is.type_covered ∙ sym is'.type_covered in
    let p1 = is.algorithm_number ∙ sym is'.algorithm_number in
    let p2 = is.label_count ∙ sym is'.label_count in
    let p3 = is.ttl ∙ sym is'.ttl in
    let p4 = is.expires ∙ sym is'.expires in
    let p5 = is.incepts ∙ sym is'.incepts in
    let p6 = is.tag ∙ sym is'.tag in
    λ i. record { covered = p0 i; algorithm = p1 i; labels = p2 i; original_ttl = p3 i; expiration = p4 i; inception = p5 i; key_tag = p6 i; signer = same i }

-- ---- NSEC

-- the octets spell this name and no other
pub record IsRead (octets : List ℕ) (name : List (List ℕ)) (taken : ℕ) (rest : List ℕ) : Type 0 where
  pub only : (name' : List (List ℕ)) (taken' : ℕ) → Spells octets name' taken' → (name ≡ name') × (taken ≡ taken')
  pub after : rest ≡ drop taken octets

after_same : (octets : List ℕ) (name : List (List ℕ)) (taken : ℕ) (rest : List ℕ) → IsRead octets name taken rest → (name' : List (List ℕ)) (taken' : ℕ) → Spells octets name' taken' → rest ≡ drop taken' octets
after_same octets name taken rest read name' taken' spells = read.after ∙ ap (λ n. drop n octets) (read.only name' taken' spells).1

pub is_read : (octets : List ℕ) (read : List (List ℕ) × ℕ) (rest : List ℕ) → ((name : List (List ℕ)) (taken : ℕ) → Spells octets name taken → read ≡ (name, taken)) → rest ≡ drop read.1 octets → IsRead octets read.0 read.1 rest
is_read octets read rest only after = record {
  only = λ name taken spells. (ap (λ r. r.0) (only name taken spells), ap (λ r. r.1) (only name taken spells));
  after = after;
}

pub nsec_rest_bad : (octets : List ℕ) (name : List (List ℕ)) (taken : ℕ) (rest : List ℕ) → IsRead octets name taken rest → nsec.HasBadMap octets → IsNoTypeMap rest
nsec_rest_bad octets name taken rest read bad =
    subst IsNoTypeMap (sym (after_same octets name taken rest read bad.name bad.taken bad.spelled)) bad.bad

pub nsec_bad : (octets : List ℕ) (name : List (List ℕ)) (taken : ℕ) (rest : List ℕ) → Spells octets name taken → rest ≡ drop taken octets → IsNoTypeMap rest → nsec.HasBadMap octets
nsec_bad octets name taken rest spells after none = record {
  name = name;
  taken = taken;
  spelled = spells;
  bad = subst IsNoTypeMap after none;
}

pub nsec_none : (octets : List ℕ) (name : List (List ℕ)) (taken : ℕ) (rest : List ℕ) (parts : NsecParts) → IsRead octets name taken rest → IsNoTypeMap rest → nsec.IsNsec octets parts → ⊥
nsec_none octets name taken rest parts read none is =
    none parts.types (subst (λ o. IsTypeMap o parts.types) (sym (after_same octets name taken rest read parts.next is.taken is.name)) is.map)

pub one_nsec : (octets : List ℕ) (name : List (List ℕ)) (taken : ℕ) (rest types : List ℕ) (parts : NsecParts) → IsRead octets name taken rest → IsTypeMap rest types → nsec.IsNsec octets parts → (let made : NsecParts = record { next = name; types = types } in made ≡ parts)
one_nsec octets name taken rest types parts read map is =
    let names = (read.only parts.next is.taken is.name).0 in
    let maps = one_meaning rest types parts.types map (subst (λ o. IsTypeMap o parts.types) (sym (after_same octets name taken rest read parts.next is.taken is.name)) is.map) in
    λ i. record { next = names i; types = maps i }

pub nsec_of : (octets : List ℕ) (name : List (List ℕ)) (taken : ℕ) (rest types : List ℕ) → Spells octets name taken → rest ≡ drop taken octets → IsTypeMap rest types → (parts : NsecParts) × nsec.IsNsec octets parts
nsec_of octets name taken rest types spells after map =
    (record { next = name; types = types }, record { taken = taken; name = spells; map = subst (λ o. IsTypeMap o types) after map })

-- ---- NSEC3

pub one_nsec3 : (octets : List ℕ) (a b : Nsec3Parts) → nsec3.IsNsec3 octets a → nsec3.IsNsec3 octets b → a ≡ b
one_nsec3 octets a b is is' =
    let p0 = is.algorithm_number ∙ sym is'.algorithm_number in
    let p1 = is.flag_bits ∙ sym is'.flag_bits in
    let p2 = is.more_times ∙ sym is'.more_times in
    let p3 = is.salted ∙ sym is'.salted in
    let p4 = is.next_hash ∙ sym is'.next_hash in
    let p5 = one_meaning (drop (nsec3.map_offset octets) octets) a.types b.types is.map is'.map in
    λ i. record { algorithm = p0 i; flags = p1 i; iterations = p2 i; salt = p3 i; next = p4 i; types = p5 i }

-- the salt's and the hash's lengths, as they are read one after the other, and what follows the hash
pub record HasLayout (octets : List ℕ) (rest : List ℕ) : Type 0 where
  pub whole : nsec3.map_offset octets ≤ length octets
  pub hash : nsec3.hash_size octets ≡ 20
  pub after : rest ≡ drop (nsec3.map_offset octets) octets

pub has_layout : (octets rest : List ℕ) (salt hash : ℕ) → nsec3.map_offset octets ≤ length octets → salt ≡ slice_index octets 4 → hash ≡ slice_index octets (5 + salt) → hash ≡ 20 → rest ≡ drop (5 + salt + 1 + 20) octets → HasLayout octets rest
has_layout octets rest salt hash whole salt_is hash_is twenty after =
    let size : nsec3.hash_size octets ≡ 20 = ap (λ n. slice_index octets (5 + n)) (sym salt_is) ∙ sym hash_is ∙ twenty in
    let place : 5 + salt + 1 + 20 ≡ nsec3.map_offset octets = omega (arith, salt_is, size) in
    record { whole = whole; hash = size; after = after ∙ ap (λ n. drop n octets) place }

pub nsec3_rest_bad : (octets rest : List ℕ) → HasLayout octets rest → nsec3.HasBadMap octets → IsNoTypeMap rest
nsec3_rest_bad octets rest layout bad = subst IsNoTypeMap (sym layout.after) bad.bad

pub nsec3_bad : (octets rest : List ℕ) → HasLayout octets rest → IsNoTypeMap rest → nsec3.HasBadMap octets
nsec3_bad octets rest layout none = record {
  whole = layout.whole;
  hash = layout.hash;
  bad = subst IsNoTypeMap layout.after none;
}

pub nsec3_none : (octets rest : List ℕ) (parts : Nsec3Parts) → HasLayout octets rest → IsNoTypeMap rest → nsec3.IsNsec3 octets parts → ⊥
nsec3_none octets rest parts layout none is = none parts.types (subst (λ o. IsTypeMap o parts.types) (sym layout.after) is.map)

pub nsec3_of : (octets rest types : List ℕ) → HasLayout octets rest → IsTypeMap rest types → (parts : Nsec3Parts) × nsec3.IsNsec3 octets parts
nsec3_of octets rest types layout map = (
  record {
    algorithm = slice_index octets 0;
    flags = slice_index octets 1;
    iterations = big_number 2 (drop 2 octets);
    salt = take (nsec3.salt_size octets) (drop 5 octets);
    next = take 20 (drop (nsec3.hash_offset octets) octets);
    types = types;
  },
  record {
    whole = layout.whole;
    hash = layout.hash;
    algorithm_number = refl;
    flag_bits = refl;
    more_times = refl;
    salted = refl;
    next_hash = refl;
    map = subst (λ o. IsTypeMap o types) layout.after map;
  },
)
