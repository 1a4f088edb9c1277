-- What NSEC3 records must say to prove something of a name and a type.
use Rattle.std.specs.Prelude.{◌≡◌, ℕ, false, List, ◌∷◌}
use Rattle.std.specs.List.{Contains}
use Rattle.dname.specs.Name.{Label, IsUnder, asterisk}
use Rattle.dname.specs.Arc.{IsInside}
use Rattle.dname.specs.declared.types.TheConstants.{DNAME_TYPE, NS_TYPE}
use Rattle.zone_meaning.specs.Consistent.{SetPart}
use Rattle.zone_meaning.specs.Denial.{DeniesType, DeniesSynthesis, IsSetAtSource}
use Rattle.zone_meaning.specs.Hashed.{Nsec3Part, hash_cmp}

-- ---- one NSEC3

-- it has the name's hash, and lacks the type (RFC 5155, sections 8.5 and 8.6)
pub record IsHashedMatchWithoutType (nsec3 : Nsec3Part) (name : List Label) (rtype : ℕ) : Type 0 where
  pub within : IsUnder name nsec3.zone
  pub matches : nsec3.hash name ≡ nsec3.owner
  pub denies : DeniesType nsec3.types name nsec3.zone rtype

-- the name's hash is inside its arc, and Opt-Out is clear: the name doesn't exist (RFC 5155, sections 6 and 8.3)
pub record IsNoHashedName (nsec3 : Nsec3Part) (name : List Label) : Type 0 where
  pub inside : IsInside hash_cmp nsec3.owner nsec3.next (nsec3.hash name)
  pub no_opt_out : nsec3.opt_out ≡ false

-- ---- the closest encloser (RFC 5155, section 8.3)

-- the next closer name, which is one label longer than an ancestor of the name, doesn't exist
pub record IsNextCloserMissing (nsec3 : Nsec3Part) (name ancestor : List Label) : Type 0 where
  pub within : IsUnder ancestor nsec3.zone
  pub label : Label
  pub above : IsUnder name (label ∷ ancestor)
  pub no_name : IsNoHashedName nsec3 (label ∷ ancestor)

-- the ancestor exists, is no cut and has no DNAME
pub record IsOpenEncloser (nsec3 : Nsec3Part) (encloser : List Label) : Type 0 where
  pub matches : nsec3.hash encloser ≡ nsec3.owner
  pub no_dname : Contains nsec3.types DNAME_TYPE → ⊥
  pub no_cut : Contains nsec3.types NS_TYPE → encloser ≡ nsec3.zone

-- ---- and what is said of the source of synthesis, by the same NSEC3 or another, or by a set

-- it doesn't exist (RFC 5155, section 8.4)
pub record IsHashedNameError (closer matching source : Nsec3Part) (name encloser : List Label) : Type 0 where
  pub missing : IsNextCloserMissing closer name encloser
  pub nearest : IsOpenEncloser matching encloser
  pub no_wildcard : IsNoHashedName source (asterisk ∷ encloser)

-- it lacks the type (RFC 5155, section 8.7); that it exists shows by itself that the name above it does, is no cut and has
-- no DNAME
pub record IsHashedWildcardWithoutType (closer source : Nsec3Part) (name encloser : List Label) (rtype : ℕ) : Type 0 where
  pub missing : IsNextCloserMissing closer name encloser
  pub matches : source.hash (asterisk ∷ encloser) ≡ source.owner
  pub denies : DeniesSynthesis source.types rtype

-- it has the type (RFC 5155, section 8.8)
pub record IsHashedWildcardAnswer (closer : Nsec3Part) (set : SetPart) (name encloser : List Label) (rtype : ℕ) : Type 0 where
  pub missing : IsNextCloserMissing closer name encloser
  pub answers : IsSetAtSource set encloser rtype
