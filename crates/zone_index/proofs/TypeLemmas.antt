-- When a type bit map has just the types of a name.
use Rattle.std.proofs.Common.{◌≡◌, ℕ, ◌↔◌, ◌+◌, ◌<◌, ◌≤◌, List, length, map, get_or, refl, sym, ◌∙◌, ap, subst, arith, ⊎_elim, Bool, true, false}
use Rattle.std.specs.Prelude.{not, IsTrue}
use Rattle.std.specs.List.{All, Contains}
use Rattle.std.proofs.lemmas.Bool.{false≢true, cases_lt}
use Rattle.std.proofs.lemmas.List.{get_or_default}
use Rattle.std.proofs.lemmas.List.Elements.{All-contains}
use Rattle.facts.proofs.Lists.{all_by_member}
use Rattle.facts.proofs.Maps.{into_map, from_map}
use Rattle.dname.specs.Name.{Label}
use Rattle.dname.specs.declared.types.TheConstants.{CNAME_TYPE, DS_TYPE, NS_TYPE, RRSIG_TYPE, NSEC_TYPE, NSEC3_TYPE}
use Rattle.zone_meaning.specs.Zone.{Zone, ZoneRecord, IsZone, IsProofType, IsCut, HasType}
use Rattle.zone_meaning.specs.Consistent.{IsParentType, TypesAgree}
use Rattle.zone_meaning.proofs.ZoneTests.{record_at}
use Rattle.zone_index.specs.Entries.{record_of, HasTypesIn, HaveRecords, ParentTypesAgree}
use Rattle.zone_index.specs.declared.entry.Entry.{Entry}

plain : (rtype : ℕ) → IsParentType rtype → IsProofType rtype → ⊥
plain rtype parent proof = ⊎_elim
    (λ (p : rtype ≡ NS_TYPE). no_proof NS_TYPE rtype p (λ e. omega (arith, e)) (λ e. omega (arith, e)) (λ e. omega (arith, e)) proof)
    (λ more. ⊎_elim
    (λ (p : rtype ≡ DS_TYPE). no_proof DS_TYPE rtype p (λ e. omega (arith, e)) (λ e. omega (arith, e)) (λ e. omega (arith, e)) proof)
    (λ (p : rtype ≡ CNAME_TYPE). no_proof CNAME_TYPE rtype p (λ e. omega (arith, e)) (λ e. omega (arith, e)) (λ e. omega (arith, e)) proof)
    more)
    parent
  where
    no_proof : (t rtype : ℕ) → rtype ≡ t → (t ≡ RRSIG_TYPE → ⊥) → (t ≡ NSEC_TYPE → ⊥) → (t ≡ NSEC3_TYPE → ⊥) → IsProofType rtype → ⊥
    no_proof t rtype is a b c = ⊎_elim (λ e. a (sym is ∙ e)) (λ more. ⊎_elim (λ e. b (sym is ∙ e)) (λ e. c (sym is ∙ e)) more)

-- at a cut the parent's types are what is asked
pub agree_at_cut : (zone : Zone) (name : List Label) (types : List ℕ) → IsCut zone name → ParentTypesAgree zone name types ↔ TypesAgree zone name types
agree_at_cut zone name types cut = (
  λ agree rtype _ parent. agree rtype (parent cut),
  λ agree rtype parent. agree rtype (plain rtype parent) (λ _. parent),
)

-- elsewhere all are
type_is_plain : (zone : Zone) → IsZone zone → (name : List Label) (rtype : ℕ) → HasType zone name rtype → IsProofType rtype → ⊥
type_is_plain zone is name rtype has = All-contains (λ (r : ZoneRecord). IsProofType r.rtype → ⊥) zone.records (record { owner = name; rtype = rtype; octets = has.0 }) is.types has.1

pub lacks_type : (zone : Zone) → IsZone zone → (name : List Label) (types : List ℕ) → (IsCut zone name → ⊥) → TypesAgree zone name types → HasTypesIn zone name types
lacks_type zone is name types whole agree rtype has = (agree rtype (type_is_plain zone is name rtype has) (λ cut. absurd (whole cut))).0 has

pub agree_elsewhere : (zone : Zone) (name : List Label) (types : List ℕ) → (IsCut zone name → ⊥) → HasTypesIn zone name types → HaveRecords zone name types ↔ TypesAgree zone name types
agree_elsewhere zone name types whole listed = (
  λ records rtype plain' _. (listed rtype, λ in'. records rtype in' plain'),
  λ agree rtype in' plain'. (agree rtype plain' (λ cut. absurd (whole cut))).1 in',
)

-- a run of the owner's entries has its types
pub listed_by : (zone : Zone) (name : List Label) (types : List ℕ) (run : List Entry) → ((r : ZoneRecord) → Contains (map record_of run) r ↔ (Contains zone.records r × (r.owner ≡ name))) → All (λ e. Contains types e.rtype) run ↔ HasTypesIn zone name types
listed_by zone name types run finds = (
  λ all rtype has.
      let r : ZoneRecord = record { owner = name; rtype = rtype; octets = has.0 } in
      let e = from_map record_of run r ((finds r).1 (has.1, refl)) in
      subst (Contains types) (ap (λ (x : ZoneRecord). x.rtype) e.2) (All-contains (λ (x : Entry). Contains types x.rtype) run e.0 all e.1),
  λ listed. all_by_member (λ (x : Entry). Contains types x.rtype) run (λ x in'.
      let h = (finds (record_of x)).0 (into_map record_of run x in') in
      listed x.rtype (x.octets, subst (Contains zone.records) (record_at (record_of x) name x.rtype h.1 refl) h.0)),
)

-- ---- one type

pub agree_there : {P Q : Type 0} (listed : Bool) → P → (IsTrue listed ↔ Q) → IsTrue listed ↔ (P ↔ Q)
agree_there listed p told = (λ t. (λ _. told.0 t, λ _. p), λ both. told.1 (both.0 p))

pub agree_lacking : {P Q : Type 0} (listed : Bool) → (P → ⊥) → (IsTrue listed ↔ Q) → IsTrue (not listed) ↔ (P ↔ Q)
agree_lacking true none told = (λ t. absurd (false≢true t), λ both. absurd (none (both.1 (told.0 refl))))
agree_lacking false none told = (λ _. (λ p. absurd (none p), λ q. absurd (false≢true (told.1 q))), λ _. refl)

pub parent_by : (zone : Zone) (name : List Label) (types : List ℕ) → (HasType zone name NS_TYPE ↔ Contains types NS_TYPE) → (HasType zone name DS_TYPE ↔ Contains types DS_TYPE) → (HasType zone name CNAME_TYPE ↔ Contains types CNAME_TYPE) → ParentTypesAgree zone name types
parent_by zone name types ns ds cname rtype parent =
    ⊎_elim (λ (e : rtype ≡ NS_TYPE). put NS_TYPE e ns) (λ more. ⊎_elim (λ (e : rtype ≡ DS_TYPE). put DS_TYPE e ds) (λ (e : rtype ≡ CNAME_TYPE). put CNAME_TYPE e cname) more) parent
  where
    put : (t : ℕ) → rtype ≡ t → (HasType zone name t ↔ Contains types t) → HasType zone name rtype ↔ Contains types rtype
    put t e both = subst (λ r. HasType zone name r ↔ Contains types r) (sym e) both

-- ---- a walk over the types

pub walked_more : (zone : Zone) (name : List Label) (types : List ℕ) (from next : ℕ) → ((t : ℕ) → Contains types t → t < from → (IsProofType t → ⊥) → HasType zone name t) → ((other : ℕ) → Contains types other → from ≤ other → next ≤ other) → ((IsProofType next → ⊥) → HasType zone name next) → (t : ℕ) → Contains types t → t < next + 1 → (IsProofType t → ⊥) → HasType zone name t
walked_more zone name types from next below least there t has short plain' = ⊎_elim
    (λ (less : t < from). below t has less plain')
    (λ (le : from ≤ t).
    let e : next ≡ t = omega (arith, least t has le, short) in
    subst (HasType zone name) e (there (λ proof. plain' (subst IsProofType e proof))))
    (cases_lt t from)

-- ---- the entries of a run, one by one

pub listed_more : (types : List ℕ) (entries : List Entry) (at : ℕ) (e : Entry) → ((k : ℕ) (d : Entry) → k < at → Contains types (get_or entries k d).rtype) → at < length entries → Contains types (get_or entries at e).rtype → (k : ℕ) (d : Entry) → k < at + 1 → Contains types (get_or entries k d).rtype
listed_more types entries at e so_far here has k d lt = ⊎_elim
    (λ (less : k < at). so_far k d less)
    (λ (le : at ≤ k). subst (λ n. Contains types (get_or entries n d).rtype) {x = at} {y = k} (omega (arith, le, lt)) (subst (λ (x : Entry). Contains types x.rtype) (get_or_default entries at e d here) has))
    (cases_lt k at)
