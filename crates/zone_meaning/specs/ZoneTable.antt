-- A zone's records by owner and type, and the steps of a lookup among them.
use Rattle.std.specs.Prelude.{◌≡◌, ◌≢◌, ℕ, List, [], ◌∷◌, ◌++◌, map}
use Rattle.std.specs.List.{All, AllPairs, Contains}
use Rattle.dname.specs.Name.{Label, IsUnder}
use Rattle.zone_meaning.specs.Zone.{Zone, ZoneRecord, IsZone, IsBelow, IsBar, IsOwner}
use Rattle.zone_meaning.specs.Lookup.{Looked, Answer, Alias, NoData, NxDomain, Referral, Redirect, Undefined}
use Rattle.zone_meaning.specs.declared.group.Group.{Group}
use Rattle.zone_meaning.specs.declared.looked.Looked as lent
use Rattle.zone_meaning.specs.declared.looked.Looked.TheVariants as lends

abbrev pub zone_record : List Label → ℕ → List ℕ → ZoneRecord
zone_record owner rtype octets = record { owner = owner; rtype = rtype; octets = octets }

-- each record stands in the zone once
abbrev pub HasEachOnce : Zone → Type 0
HasEachOnce zone = AllPairs (λ r s. r ≢ s) zone.records

-- the answer that a looked-up value lends
abbrev pub looked_of : lent.Looked → Looked
looked_of (lends.Answer items) = Answer items.now
looked_of (lends.Alias octets) = Alias octets.now
looked_of lends.NoData = NoData
looked_of lends.NxDomain = NxDomain
looked_of (lends.Referral cut) = Referral cut
looked_of (lends.Redirect owner) = Redirect owner
looked_of lends.Undefined = Undefined

-- ---- groups

-- the group's records, in order
abbrev pub records_of : Group → List ZoneRecord
records_of group = map (zone_record group.owner group.rtype) group.items

-- the records of all groups, in order
abbrev pub records_in : List Group → List ZoneRecord
records_in [] = []
records_in (group ∷ rest) = records_of group ++ records_in rest

abbrev pub zone_in : List Label → List Group → Zone
zone_in apex groups = record { apex = apex; records = records_in groups }

-- the group is that of the owner and type
abbrev pub IsOf : Group → List Label → ℕ → Type 0
IsOf group owner rtype = (group.owner ≡ owner) × (group.rtype ≡ rtype)

-- no two groups are of one owner and type
abbrev pub AreApart : List Group → Type 0
AreApart [] = Unit {0}
AreApart (group ∷ rest) =
    ((other : Group) → Contains rest other → IsOf other group.owner group.rtype → ⊥) × AreApart rest

-- the groups are the zone's records: each has some, no two are of one owner and type, and no record is there twice
pub record IsTable (zone : Zone) (groups : List Group) : Type 0 where
  pub valid : IsZone zone
  pub records : zone.records ≡ records_in groups
  pub once : HasEachOnce zone
  pub filled : All (λ group. group.items ≢ []) groups
  pub apart : AreApart groups

-- ---- what a lookup asks of them

-- no cut and no DNAME is above the name
abbrev pub IsUnbarred : Zone → List Label → Type 0
IsUnbarred zone name = (bar : List Label) → IsBar zone bar → IsBelow name bar → ⊥

-- an owner is the name or below it
abbrev pub IsReached : Zone → List Label → Type 0
IsReached zone name = (owner : List Label) × IsOwner zone owner × IsUnder owner name
