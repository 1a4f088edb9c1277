-- When what an NSEC3 says is true of a zone, and which names its hash must tell apart.
use Rattle.std.specs.Prelude.{◌≡◌, ℕ, Bool, false, List, ◌∷◌}
use Rattle.std.specs.Ordering.{nat_cmp}
use Rattle.std.specs.Cmp.Lexicographic.{slice_cmp}
use Rattle.std.specs.declared.cmp.Ordering.{Ordering}
use Rattle.dname.specs.Name.{Label, IsUnder, asterisk}
use Rattle.dname.specs.Arc.{IsInside}
use Rattle.zone_meaning.specs.Zone.{Zone, IsBelow, Exists}
use Rattle.zone_meaning.specs.Consistent.{TypesAgree}

-- hashes compare as strings of unsigned octets (RFC 5155, sections 1.3 and 3.1.7)
abbrev pub hash_cmp : List ℕ → List ℕ → Ordering
hash_cmp = slice_cmp nat_cmp

-- an NSEC3: the zone that it is of, how it hashes names, its owner's hash, the next hash, its Opt-Out flag, and its type bit
-- map (RFC 5155, section 3.1); any way to hash will do, so nothing here turns on what the standard's gives
pub record Nsec3Part : Type 0 where
  pub zone : List Label
  pub hash : List Label → List ℕ
  pub owner : List ℕ
  pub next : List ℕ
  pub opt_out : Bool
  pub types : List ℕ

-- an NSEC3 is true of a zone where its owner's hash is that of a name that exists, its types are that name's, and, with
-- Opt-Out clear, no name that exists has a hash inside its arc (RFC 5155, sections 6 and 7.1)
pub record IsConsistentNsec3 (zone : Zone) (nsec3 : Nsec3Part) : Type 0 where
  pub apex : zone.apex ≡ nsec3.zone
  pub named : List Label
  pub there : Exists zone named
  pub hashed : nsec3.hash named ≡ nsec3.owner
  pub types_agree : TypesAgree zone named nsec3.types
  pub none_between :
      nsec3.opt_out ≡ false → (name : List Label) → Exists zone name
      → IsInside hash_cmp nsec3.owner nsec3.next (nsec3.hash name) → ⊥

-- no name that exists has the hash of another name that is the name, or an ancestor of it in the zone, or a source of
-- synthesis below such an ancestor
pub record IsClashFree (zone : Zone) (hash : List Label → List ℕ) (name : List Label) : Type 0 where
  pub of_names :
      (above other : List Label) → IsUnder name above → IsUnder above zone.apex
      → Exists zone other → hash other ≡ hash above → other ≡ above
  pub of_sources :
      (above other : List Label) → IsBelow name above → IsUnder above zone.apex
      → Exists zone other → hash other ≡ hash (asterisk ∷ above) → other ≡ asterisk ∷ above
