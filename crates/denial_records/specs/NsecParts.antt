-- The data of an NSEC record (RFC 4034, section 4.1).
use Rattle.std.specs.Prelude.{ℕ, List, drop}
use Rattle.dname.specs.Read.{Spells}
use Rattle.denial_records.specs.TypeSet.{IsTypeMap, IsNoTypeMap}
use Rattle.denial_records.specs.declared.nsec_parts.NsecParts.{NsecParts}

-- the octets are the next owner's name and type bit maps
pub record IsNsec (octets : List ℕ) (parts : NsecParts) : Type 0 where
  pub taken : ℕ
  pub name : Spells octets parts.next taken
  pub map : IsTypeMap (drop taken octets) parts.types

-- the octets begin with a name, and what follows it is no type bit maps
pub record HasBadMap (octets : List ℕ) : Type 0 where
  pub name : List (List ℕ)
  pub taken : ℕ
  pub spelled : Spells octets name taken
  pub bad : IsNoTypeMap (drop taken octets)
