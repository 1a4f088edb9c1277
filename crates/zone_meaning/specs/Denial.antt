-- What NSEC records must say to prove something of a name and a type.
use Rattle.std.specs.Prelude.{◌≡◌, ◌≢◌, ℕ, ◌⊎◌, List, ◌∷◌}
use Rattle.std.specs.List.{Contains}
use Rattle.dname.specs.Name.{Label, IsUnder, asterisk, canonical_cmp}
use Rattle.dname.specs.Arc.{IsInside}
use Rattle.dname.specs.declared.types.TheConstants.{CNAME_TYPE, DNAME_TYPE, DS_TYPE, NS_TYPE}
use Rattle.zone_meaning.specs.Zone.{IsProofType}
use Rattle.zone_meaning.specs.Consistent.{NsecPart, SetPart}

-- ---- type bit maps

-- the type bit map of a name has neither the type nor CNAME (RFC 4035, section 5.4; RFC 6840, section 4.3); one with NS
-- that is not the apex's is of the parent's side of a cut, and speaks of DS alone (RFC 6840, section 4.1)
pub record DeniesType (types : List ℕ) (name apex : List Label) (rtype : ℕ) : Type 0 where
  pub no_type : Contains types rtype → ⊥
  pub no_cname : Contains types CNAME_TYPE → ⊥
  pub side : Contains types NS_TYPE → name ≢ apex → rtype ≡ DS_TYPE
  pub ordinary : IsProofType rtype → ⊥

-- the type bit map of a source of synthesis has neither the type nor CNAME, and neither NS nor DNAME, with which the
-- source gives no defined answer (RFC 4592, sections 4.2 and 4.4)
pub record DeniesSynthesis (types : List ℕ) (rtype : ℕ) : Type 0 where
  pub no_type : Contains types rtype → ⊥
  pub no_cname : Contains types CNAME_TYPE → ⊥
  pub no_ns : Contains types NS_TYPE → ⊥
  pub no_dname : Contains types DNAME_TYPE → ⊥
  pub ordinary : IsProofType rtype → ⊥

-- ---- an NSEC of the name

-- it lacks the type
pub record IsMatchWithoutType (nsec : NsecPart) (name : List Label) (rtype : ℕ) : Type 0 where
  pub matches : nsec.owner ≡ name
  pub denies : DeniesType nsec.types name nsec.zone rtype

-- ---- an NSEC whose arc has the name inside

-- the next owner is not below the name: the name doesn't exist (RFC 4035, section 5.4)
pub record IsNoName (nsec : NsecPart) (name : List Label) : Type 0 where
  pub inside : IsInside canonical_cmp nsec.owner nsec.next name
  pub next_elsewhere : IsUnder nsec.next name → ⊥

-- the next owner is below the name: the name is an empty non-terminal (RFC 4592, section 2.2.2)
pub record IsEmptyName (nsec : NsecPart) (name : List Label) : Type 0 where
  pub inside : IsInside canonical_cmp nsec.owner nsec.next name
  pub next_below : IsUnder nsec.next name

-- where the owner is above the name, it is no cut and has no DNAME (RFC 6840, section 4.1; RFC 6672, section 5.3.4.1)
pub record SpeaksBelow (nsec : NsecPart) (name : List Label) : Type 0 where
  pub no_dname : IsUnder name nsec.owner → Contains nsec.types DNAME_TYPE → ⊥
  pub no_cut : IsUnder name nsec.owner → Contains nsec.types NS_TYPE → nsec.owner ≡ nsec.zone

-- the longest name that the name is under, and the owner or the next owner too
pub record IsEncloserBy (nsec : NsecPart) (name encloser : List Label) : Type 0 where
  pub above : IsUnder name encloser
  pub shared : IsUnder nsec.owner encloser ⊎ IsUnder nsec.next encloser
  pub longest :
      (another : List Label) → IsUnder name another
      → IsUnder nsec.owner another ⊎ IsUnder nsec.next another → IsUnder encloser another

-- a name of the zone doesn't exist; its closest encloser, with nothing on the way from there to it
pub record IsMissingName (nsec : NsecPart) (name encloser : List Label) : Type 0 where
  pub within : IsUnder name nsec.zone
  pub no_name : IsNoName nsec name
  pub speaks : SpeaksBelow nsec name
  pub nearest : IsEncloserBy nsec name encloser

-- ---- and what is said of its source of synthesis, by the same NSEC or another

-- it doesn't exist either (RFC 4035, sections 3.1.3.2 and 5.4)
pub record IsNameError (nsec source : NsecPart) (name encloser : List Label) : Type 0 where
  pub missing : IsMissingName nsec name encloser
  pub no_wildcard : IsNoName source (asterisk ∷ encloser)

-- it lacks the type (RFC 4035, section 3.1.3.4)
pub record IsWildcardWithoutType (nsec source : NsecPart) (name encloser : List Label) (rtype : ℕ) : Type 0 where
  pub missing : IsMissingName nsec name encloser
  pub matches : source.owner ≡ asterisk ∷ encloser
  pub denies : DeniesSynthesis source.types rtype

-- it is an empty non-terminal (RFC 4592, section 4.9)
pub record IsEmptyWildcard (nsec source : NsecPart) (name encloser : List Label) : Type 0 where
  pub missing : IsMissingName nsec name encloser
  pub empty : IsEmptyName source (asterisk ∷ encloser)

-- ---- or by a set

-- the set is of the source of synthesis and the type; of a DS, which is harmless there (RFC 4592, section 4.6), it isn't
-- shown that the source is no cut
pub record IsSetAtSource (set : SetPart) (encloser : List Label) (rtype : ℕ) : Type 0 where
  pub owner : set.owner ≡ asterisk ∷ encloser
  pub of_type : set.rtype ≡ rtype
  pub not_ds : rtype ≢ DS_TYPE

-- the source of synthesis has the type (RFC 4035, sections 3.1.3.3 and 5.3.4)
pub record IsWildcardAnswer (nsec : NsecPart) (set : SetPart) (name encloser : List Label) (rtype : ℕ) : Type 0 where
  pub missing : IsMissingName nsec name encloser
  pub answers : IsSetAtSource set encloser rtype
