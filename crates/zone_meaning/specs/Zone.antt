-- What a zone has, where it hands its names on, and which names exist in it.
use Rattle.std.specs.Prelude.{◌≡◌, ◌≢◌, ℕ, ◌⊎◌, ◌↔◌, List}
use Rattle.std.specs.List.{All, Contains}
use Rattle.dname.specs.Name.{Label, IsUnder}
use Rattle.dname.specs.declared.types.TheConstants.{DNAME_TYPE, NSEC3_TYPE, NSEC_TYPE, NS_TYPE, RRSIG_TYPE}

-- a record of a zone: its owner name, its type, and the octets of its data with each name written out
pub record ZoneRecord : Type 0 where
  pub owner : List Label
  pub rtype : ℕ
  pub octets : List ℕ

-- a zone: the name at its top, and its records, glue among them; their order and repeats mean nothing (RFC 1034, sections
-- 3.6 and 4.2.1)
pub record Zone : Type 0 where
  pub apex : List Label
  pub records : List ZoneRecord

-- two lists of the same records are one zone
pub record IsSameZone (zone other : Zone) : Type 0 where
  pub apex_same : zone.apex ≡ other.apex
  pub records_same : (r : ZoneRecord) → Contains zone.records r ↔ Contains other.records r

-- the types that prove the others, which a zone here is without: signatures and denials (RFC 4035, sections 2.2 and 2.3;
-- RFC 5155, section 7.1)
abbrev pub IsProofType : ℕ → Type 0
IsProofType rtype = (rtype ≡ RRSIG_TYPE) ⊎ ((rtype ≡ NSEC_TYPE) ⊎ (rtype ≡ NSEC3_TYPE))

-- each owner name is the apex or below it (RFC 1034, section 4.2), and no record is a signature or a denial
pub record IsZone (zone : Zone) : Type 0 where
  pub owners : All (λ r. IsUnder r.owner zone.apex) zone.records
  pub types : All (λ r. IsProofType r.rtype → ⊥) zone.records

-- the zone has a record of this owner, type and data
abbrev pub HasData : Zone → List Label → ℕ → List ℕ → Type 0
HasData zone owner rtype octets = Contains zone.records (record { owner = owner; rtype = rtype; octets = octets })

-- the zone has a record of this owner and type
abbrev pub HasType : Zone → List Label → ℕ → Type 0
HasType zone owner rtype = (octets : List ℕ) × HasData zone owner rtype octets

-- the zone has a record of this owner
abbrev pub IsOwner : Zone → List Label → Type 0
IsOwner zone owner = (rtype : ℕ) × HasType zone owner rtype

-- the name is below the other: under it, and not it
abbrev pub IsBelow : List Label → List Label → Type 0
IsBelow name other = IsUnder name other × (name ≢ other)

-- a zone cut: a name below the apex with name servers of its own, where another zone begins (RFC 1034, section 4.2.1)
abbrev pub IsCut : Zone → List Label → Type 0
IsCut zone name = (name ≢ zone.apex) × HasType zone name NS_TYPE

-- a bar: a cut (RFC 1034, section 4.3.2) or the owner of a DNAME (RFC 6672, sections 2.3 and 2.4), below which the zone
-- says nothing of its own
abbrev pub IsBar : Zone → List Label → Type 0
IsBar zone name = IsCut zone name ⊎ HasType zone name DNAME_TYPE

-- an owner name with no bar above it; a bar itself may be live, and glue below one is not
pub record IsLive (zone : Zone) (name : List Label) : Type 0 where
  pub owner : IsOwner zone name
  pub unbarred : (bar : List Label) → IsBar zone bar → IsBelow name bar → ⊥

-- a name in the zone exists where a live owner is it or is below it (RFC 4592, sections 2.2.2 and 2.2.3)
pub record Exists (zone : Zone) (name : List Label) : Type 0 where
  pub within : IsUnder name zone.apex
  pub owner : List Label
  pub live : IsLive zone owner
  pub under : IsUnder owner name
