-- When what a signed set of records says is true of a zone.
use Rattle.std.specs.Prelude.{◌≡◌, ◌≢◌, ℕ, ◌⊎◌, ◌↔◌, List, []}
use Rattle.std.specs.List.{Contains}
use Rattle.dname.specs.Name.{Label, canonical_cmp}
use Rattle.dname.specs.Arc.{IsInside}
use Rattle.dname.specs.declared.types.TheConstants.{CNAME_TYPE, DS_TYPE, NS_TYPE}
use Rattle.zone_meaning.specs.Zone.{Zone, HasData, HasType, IsCut, IsLive, IsProofType}

-- a set of records: the zone that it is of, its owner name and type, and the data of each (RFC 4035, section 2.2)
pub record SetPart : Type 0 where
  pub zone : List Label
  pub owner : List Label
  pub rtype : ℕ
  pub items : List (List ℕ)

-- an NSEC: the zone that it is of, its owner name, the next owner name, and its type bit map (RFC 4034, section 4.1)
pub record NsecPart : Type 0 where
  pub zone : List Label
  pub owner : List Label
  pub next : List Label
  pub types : List ℕ

-- a set is true of a zone that has just its data there, with authority: nothing below a bar, and at a cut its DS alone
-- (RFC 4035, sections 2.2 and 2.4)
pub record IsConsistentSet (zone : Zone) (set : SetPart) : Type 0 where
  pub apex : zone.apex ≡ set.zone
  pub data_there : (octets : List ℕ) → Contains set.items octets ↔ HasData zone set.owner set.rtype octets
  pub not_empty : set.items ≢ []
  pub live : IsLive zone set.owner
  pub authority : IsCut zone set.owner → set.rtype ≡ DS_TYPE

-- the types that the parent's side of a cut speaks for (RFC 4035, section 2.3; RFC 6840, section 4.1)
abbrev pub IsParentType : ℕ → Type 0
IsParentType rtype = (rtype ≡ NS_TYPE) ⊎ ((rtype ≡ DS_TYPE) ⊎ (rtype ≡ CNAME_TYPE))

-- a type bit map has just the types of the name, at a cut of those that the parent's side speaks for; of signatures and
-- denials nothing is asked (RFC 4034, section 4.1.2)
abbrev pub TypesAgree : Zone → List Label → List ℕ → Type 0
TypesAgree zone name types =
    (rtype : ℕ) → (IsProofType rtype → ⊥) → (IsCut zone name → IsParentType rtype)
    → HasType zone name rtype ↔ Contains types rtype

-- an NSEC is true of a zone where its owner and the next owner are live, its types are the owner's, and no live owner
-- stands between the two in canonical order (RFC 4034, sections 4 and 6.1; RFC 4035, section 2.3)
pub record IsConsistentNsec (zone : Zone) (nsec : NsecPart) : Type 0 where
  pub apex : zone.apex ≡ nsec.zone
  pub owner_live : IsLive zone nsec.owner
  pub next_live : IsLive zone nsec.next
  pub types_agree : TypesAgree zone nsec.owner nsec.types
  pub none_between :
      (name : List Label) → IsLive zone name → IsInside canonical_cmp nsec.owner nsec.next name → ⊥
