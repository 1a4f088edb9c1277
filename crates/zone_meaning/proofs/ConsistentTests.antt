-- Tests by which a set or an NSEC is true of a zone.
use Rattle.std.proofs.Common.{◌≡◌, ◌≢◌, ℕ, Bool, true, false, List, [], refl, subst, ◌⊎◌, ⊎_elim}
use Rattle.std.specs.Prelude.{not, ◌&&◌, ◌||◌, ◌==◌}
use Rattle.std.specs.Bool.{Decides}
use Rattle.std.specs.List.{Contains}
use Rattle.std.specs.declared.cmp.Ordering.{Ordering}
use Rattle.std.specs.declared.cmp.Ordering.TheVariants.{Equal}
use Rattle.std.specs.Cmp.{IsTotalOrder}
use Rattle.std.proofs.lemmas.Bool.Decides.{Decides-eqb, Decides-like, Decides-not, Decides-and, Decides-or, not_from_Decides}
use Rattle.facts.proofs.Lists.{all_by_member}
use Rattle.dname.specs.Name.{Label, IsUnder, canonical_cmp}
use Rattle.dname.specs.Arc.{arc_has, IsInside}
use Rattle.dname.specs.Order.{canonical_total, canonical_equal}
use Rattle.dname.specs.declared.types.TheConstants.{CNAME_TYPE, DS_TYPE, NSEC3_TYPE, NSEC_TYPE, NS_TYPE, RRSIG_TYPE}
use Rattle.dname.proofs.ArcLemmas.{inside_arc}
use Rattle.dname.proofs.SameLemmas.{same_name_decides}
use Rattle.dname.proofs.UnderLemmas.{under_decides}
use Rattle.dname.specs.Tests.{same_name, is_under}
use Rattle.zone_meaning.specs.Zone.{Zone, ZoneRecord, IsZone, IsProofType, HasType, IsCut, IsLive}
use Rattle.zone_meaning.specs.Consistent.{TypesAgree, IsParentType, SetPart, NsecPart, IsConsistentNsec, IsConsistentSet}
use Rattle.zone_meaning.proofs.LookupTests.{has_just, has_just_decides}
use Rattle.zone_meaning.proofs.ZoneTests.{any_of, any_decides, all_of, all_decides, if_decides, has_type, has_type_decides, is_cut, cut_decides, is_live, live_decides}

-- ---- arcs

-- by an order and a test of equal values
abbrev pub is_within : {K : Type 0} → (K → K → Ordering) → (K → K → Bool) → K → K → K → Bool
is_within cmp same a b x = arc_has cmp a b x && not (same x a)

pub within_decides : {K : Type 0} (cmp : K → K → Ordering) → IsTotalOrder cmp → ((x y : K) → cmp x y ≡ Equal → x ≡ y) → (same : K → K → Bool) → ((x y : K) → Decides (same x y) (x ≡ y)) → (a b x : K) → Decides (is_within cmp same a b x) (IsInside cmp a b x)
within_decides cmp total ties same decides a b x =
    let both = inside_arc cmp total ties a b x in
    Decides-like (is_within cmp same a b x) both.1 both.0
    (Decides-and (arc_has cmp a b x) (not (same x a)) (λ has. has, λ has. has) (Decides-not (same x a) (decides x a)))

abbrev pub is_inside : List Label → List Label → List Label → Bool
is_inside = is_within canonical_cmp same_name

pub inside_decides : (a b x : List Label) → Decides (is_inside a b x) (IsInside canonical_cmp a b x)
inside_decides = within_decides canonical_cmp canonical_total canonical_equal same_name same_name_decides

-- ---- types

abbrev pub is_proof_type : ℕ → Bool
is_proof_type rtype = (rtype == RRSIG_TYPE) || ((rtype == NSEC_TYPE) || (rtype == NSEC3_TYPE))

pub proof_type_decides : (rtype : ℕ) → Decides (is_proof_type rtype) (IsProofType rtype)
proof_type_decides rtype = Decides-or (rtype == RRSIG_TYPE) ((rtype == NSEC_TYPE) || (rtype == NSEC3_TYPE)) (Decides-eqb rtype RRSIG_TYPE)
    (Decides-or (rtype == NSEC_TYPE) (rtype == NSEC3_TYPE) (Decides-eqb rtype NSEC_TYPE) (Decides-eqb rtype NSEC3_TYPE))

abbrev pub is_parents : ℕ → Bool
is_parents rtype = (rtype == NS_TYPE) || ((rtype == DS_TYPE) || (rtype == CNAME_TYPE))

parents_decides : (rtype : ℕ) → Decides (is_parents rtype) (IsParentType rtype)
parents_decides rtype = Decides-or (rtype == NS_TYPE) ((rtype == DS_TYPE) || (rtype == CNAME_TYPE)) (Decides-eqb rtype NS_TYPE)
    (Decides-or (rtype == DS_TYPE) (rtype == CNAME_TYPE) (Decides-eqb rtype DS_TYPE) (Decides-eqb rtype CNAME_TYPE))

-- of such a type nothing is asked
IsUnasked : Zone → List Label → ℕ → Type 0
IsUnasked zone name rtype = IsProofType rtype ⊎ (IsCut zone name × (IsParentType rtype → ⊥))

abbrev pub is_unasked : Zone → List Label → ℕ → Bool
is_unasked zone name rtype = is_proof_type rtype || (is_cut zone name && not (is_parents rtype))

unasked_decides : (zone : Zone) (name : List Label) (rtype : ℕ) → Decides (is_unasked zone name rtype) (IsUnasked zone name rtype)
unfolding IsUnasked
unasked_decides zone name rtype = Decides-or (is_proof_type rtype) (is_cut zone name && not (is_parents rtype)) (proof_type_decides rtype)
    (Decides-and (is_cut zone name) (not (is_parents rtype)) (cut_decides zone name) (Decides-not (is_parents rtype) (parents_decides rtype)))

asked : (zone : Zone) (name : List Label) (rtype : ℕ) → (IsProofType rtype → ⊥) → (IsCut zone name → IsParentType rtype) → IsUnasked zone name rtype → ⊥
unfolding IsUnasked
asked zone name rtype plain parent = ⊎_elim plain (λ (h : IsCut zone name × (IsParentType rtype → ⊥)). h.1 (parent h.0))

abbrev pub do_types_agree : Zone → List Label → List ℕ → Bool
do_types_agree zone name types =
    all_of (λ r. not (same_name r.owner name) || (is_unasked zone name r.rtype || any_of (λ t. t == r.rtype) types)) zone.records
    && all_of (λ t. is_unasked zone name t || has_type zone name t) types

pub types_agree : (zone : Zone) (name : List Label) (types : List ℕ) → do_types_agree zone name types ≡ true → TypesAgree zone name types
types_agree zone name types test rtype plain parent =
    let both = (Decides-and
    (all_of (λ r. not (same_name r.owner name) || (is_unasked zone name r.rtype || any_of (λ t. t == r.rtype) types)) zone.records)
    (all_of (λ t. is_unasked zone name t || has_type zone name t) types)
    (all_decides (λ r. not (same_name r.owner name) || (is_unasked zone name r.rtype || any_of (λ t. t == r.rtype) types)) (λ r. r.owner ≡ name → IsUnasked zone name r.rtype ⊎ ((t : ℕ) × Contains types t × (t ≡ r.rtype)))
    (λ r. if_decides (same_name r.owner name) (is_unasked zone name r.rtype || any_of (λ t. t == r.rtype) types) (same_name_decides r.owner name)
    (Decides-or (is_unasked zone name r.rtype) (any_of (λ t. t == r.rtype) types) (unasked_decides zone name r.rtype)
    (any_decides (λ t. t == r.rtype) (λ t. t ≡ r.rtype) (λ t. Decides-eqb t r.rtype) types)))
    zone.records)
    (all_decides (λ t. is_unasked zone name t || has_type zone name t) (λ t. IsUnasked zone name t ⊎ HasType zone name t)
    (λ t. Decides-or (is_unasked zone name t) (has_type zone name t) (unasked_decides zone name t) (has_type_decides zone name t))
    types)).0 test in (
      λ has. ⊎_elim
          (λ skipped. absurd (asked zone name rtype plain parent skipped))
          (λ (h : (t : ℕ) × Contains types t × (t ≡ rtype)). subst (Contains types) h.2 h.1)
          (both.0 (record { owner = name; rtype = rtype; octets = has.0 }) has.1 refl),
      λ in'. ⊎_elim (λ skipped. absurd (asked zone name rtype plain parent skipped)) (λ has. has) (both.1 rtype in'),
    )

abbrev pub has_bit : List ℕ → ℕ → Bool
has_bit types rtype = any_of (λ t. t == rtype) types

pub bit_decides : (types : List ℕ) (rtype : ℕ) → Decides (has_bit types rtype) (Contains types rtype)
bit_decides types rtype = Decides-like (has_bit types rtype)
    (λ h. subst (Contains types) h.2 h.1)
    (λ in'. (rtype, in', refl))
    (any_decides (λ t. t == rtype) (λ t. t ≡ rtype) (λ t. Decides-eqb t rtype) types)

pub lacks : (types : List ℕ) (rtype : ℕ) → has_bit types rtype ≡ false → Contains types rtype → ⊥
lacks types rtype test = not_from_Decides (has_bit types rtype) (bit_decides types rtype) test

pub lists : (types : List ℕ) (rtype : ℕ) → has_bit types rtype ≡ true → Contains types rtype
lists types rtype = (bit_decides types rtype).0

-- ---- the ring of live owners

abbrev pub is_empty_between : Zone → List Label → List Label → Bool
is_empty_between zone a b = all_of (λ r. not (is_live zone r.owner) || not (is_inside a b r.owner)) zone.records

pub none_between : (zone : Zone) (a b : List Label) → is_empty_between zone a b ≡ true → (name : List Label) → IsLive zone name → IsInside canonical_cmp a b name → ⊥
none_between zone a b test name live =
    let owner = live.owner in
    (all_decides (λ r. not (is_live zone r.owner) || not (is_inside a b r.owner)) (λ r. IsLive zone r.owner → IsInside canonical_cmp a b r.owner → ⊥)
    (λ r. if_decides (is_live zone r.owner) (not (is_inside a b r.owner)) (live_decides zone r.owner) (Decides-not (is_inside a b r.owner) (inside_decides a b r.owner)))
    zone.records).0 test (record { owner = name; rtype = owner.0; octets = owner.1.0 }) owner.1.1 live

pub nsec_by_tests : (zone : Zone) (part : NsecPart) → zone.apex ≡ part.zone → is_live zone part.owner ≡ true → is_live zone part.next ≡ true → do_types_agree zone part.owner part.types ≡ true → is_empty_between zone part.owner part.next ≡ true → IsConsistentNsec zone part
nsec_by_tests zone part apex owner next types between = record {
  apex = apex;
  owner_live = (live_decides zone part.owner).0 owner;
  next_live = (live_decides zone part.next).0 next;
  types_agree = types_agree zone part.owner part.types types;
  none_between = none_between zone part.owner part.next between;
}

pub set_by_tests : (zone : Zone) (part : SetPart) → zone.apex ≡ part.zone → has_just zone part.owner part.rtype part.items ≡ true → part.items ≢ [] → is_live zone part.owner ≡ true → (not (is_cut zone part.owner) || (part.rtype == DS_TYPE)) ≡ true → IsConsistentSet zone part
set_by_tests zone part of_zone just some live authority = record {
  apex = of_zone;
  data_there = (has_just_decides zone part.owner part.rtype part.items).0 just;
  not_empty = some;
  live = (live_decides zone part.owner).0 live;
  authority = (if_decides (is_cut zone part.owner) (part.rtype == DS_TYPE) (cut_decides zone part.owner) (Decides-eqb part.rtype DS_TYPE)).0 authority;
}

-- ---- a zone

abbrev pub is_zone : Zone → Bool
is_zone zone = all_of (λ r. is_under r.owner zone.apex) zone.records && all_of (λ r. not (is_proof_type r.rtype)) zone.records

pub zone_by_test : (zone : Zone) → is_zone zone ≡ true → IsZone zone
zone_by_test zone test =
    let both = (Decides-and (all_of (λ r. is_under r.owner zone.apex) zone.records) (all_of (λ r. not (is_proof_type r.rtype)) zone.records)
    (all_decides (λ r. is_under r.owner zone.apex) (λ r. IsUnder r.owner zone.apex) (λ r. under_decides r.owner zone.apex) zone.records)
    (all_decides (λ r. not (is_proof_type r.rtype)) (λ r. IsProofType r.rtype → ⊥) (λ r. Decides-not (is_proof_type r.rtype) (proof_type_decides r.rtype)) zone.records)).0 test in
    record {
      owners = all_by_member (λ (r : ZoneRecord). IsUnder r.owner zone.apex) zone.records both.0;
      types = all_by_member (λ (r : ZoneRecord). IsProofType r.rtype → ⊥) zone.records both.1;
    }
