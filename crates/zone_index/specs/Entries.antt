-- A zone's records in an order in which they are found by search. No public clause cites this module.
use Rattle.std.specs.Prelude.{◌≡◌, ◌↔◌, ◌<◌, ◌-◌, ℕ, List, length, get_or, map}
use Rattle.std.specs.List.{Contains}
use Rattle.std.specs.List.Sorted.{IsSorted, IsNonDecreasingBy}
use Rattle.std.specs.Ordering.{nat_cmp, ordering_index, ordering_then}
use Rattle.std.specs.Cmp.Lexicographic.{slice_cmp}
use Rattle.std.specs.declared.cmp.Ordering.{Ordering}
use denote.Ref.{Bor}
use Rattle.dname.specs.Name.{Label, canonical_cmp}
use Rattle.zone_meaning.specs.Zone.{Zone, ZoneRecord, IsZone, IsProofType, HasType}
use Rattle.zone_meaning.specs.Consistent.{IsParentType}
use Rattle.zone_index.specs.declared.entry.Entry.{Entry}
use Rattle.zone_index.specs.declared.sought.Sought.{Sought}
use Rattle.zone_index.specs.declared.sought.Sought.TheVariants.{AtOwner, OfType, WithData}

abbrev pub record_of : Entry → ZoneRecord
record_of entry = record { owner = entry.owner; rtype = entry.rtype; octets = entry.octets }

abbrev pub zone_in : List Label → List Entry → Zone
zone_in apex entries = record { apex = apex; records = map record_of entries }

-- by owner name, then by type, then by data
abbrev pub record_cmp : ZoneRecord → ZoneRecord → Ordering
record_cmp r s =
    ordering_then (canonical_cmp r.owner s.owner) (ordering_then (nat_cmp r.rtype s.rtype) (slice_cmp nat_cmp r.octets s.octets))

abbrev pub entry_cmp : Entry → Entry → Ordering
entry_cmp one other = record_cmp (record_of one) (record_of other)

-- the entries are in that order, and are a zone's
pub record AreIndexed (apex : List Label) (entries : List Entry) : Type 0 where
  pub valid : IsZone (zone_in apex entries)
  pub sorted : IsSorted entry_cmp entries

-- how a record compares with those that are looked for
abbrev pub versus : Sought → ZoneRecord → Ordering
versus (AtOwner owner) r = canonical_cmp r.owner owner.now
versus (OfType rtype) r = nat_cmp r.rtype rtype
versus (WithData rtype octets) r = ordering_then (nat_cmp r.rtype rtype) (slice_cmp nat_cmp r.octets octets.now)

-- the record is one of those that are looked for
abbrev pub IsSought : Sought → ZoneRecord → Type 0
IsSought (AtOwner owner) r = r.owner ≡ owner.now
IsSought (OfType rtype) r = r.rtype ≡ rtype
IsSought (WithData rtype octets) r = (r.rtype ≡ rtype) × (r.octets ≡ octets.now)

-- along the entries no record comes before those that are looked for again
abbrev pub Rises : Sought → List Entry → Type 0
Rises sought entries = IsNonDecreasingBy (λ e. ordering_index (versus sought (record_of e))) entries

-- the run is all those entries, and no other
abbrev pub IsRun : Sought → List Entry → List Entry → Type 0
IsRun sought entries run = (e : Entry) → Contains run e ↔ (Contains entries e × IsSought sought (record_of e))

-- a zone, and a name for whose records it is asked
pub record NameInZone : Type 0 where
  pub zone : Zone
  pub name : List Label

-- the entries are all of the owner's in the zone, in their order
pub record AreOwners (zone : Zone) (owner : List Label) (entries : List Entry) : Type 0 where
  pub finds : (r : ZoneRecord) → Contains (map record_of entries) r ↔ (Contains zone.records r × (r.owner ≡ owner))
  pub sorted : IsSorted entry_cmp entries

-- at each place stand the entries of the name there
pub record AreRuns (zone : Zone) (names : List (List Label)) (runs : List (Bor (List Entry))) : Type 0 where
  pub long : length runs ≡ length names
  pub each : (at : ℕ) (d : List Label) (e : Bor (List Entry)) → at < length runs → AreOwners zone (get_or names at d) (get_or runs at e).now

-- the records are those of the zone that have the owner and type
abbrev pub AreOfType : Zone → List Label → ℕ → List Entry → Type 0
AreOfType zone owner rtype entries =
    (r : ZoneRecord) → Contains (map record_of entries) r ↔ (Contains zone.records r × ((r.owner ≡ owner) × (r.rtype ≡ rtype)))

-- the entry there has the owner of the one before; d stands for what is beyond the end
abbrev pub IsRepeated : List Entry → ℕ → Entry → Type 0
IsRepeated entries at d = (0 < at) × ((get_or entries (at - 1) d).owner ≡ (get_or entries at d).owner)

-- ---- types

-- each type of the name is among these
abbrev pub HasTypesIn : Zone → List Label → List ℕ → Type 0
HasTypesIn zone name types = (rtype : ℕ) → HasType zone name rtype → Contains types rtype

-- the name has a record of each of these types, but of those that prove others
abbrev pub HaveRecords : Zone → List Label → List ℕ → Type 0
HaveRecords zone name types = (rtype : ℕ) → Contains types rtype → (IsProofType rtype → ⊥) → HasType zone name rtype

-- the types are the name's, of those that the parent's side speaks for
abbrev pub ParentTypesAgree : Zone → List Label → List ℕ → Type 0
ParentTypesAgree zone name types = (rtype : ℕ) → IsParentType rtype → HasType zone name rtype ↔ Contains types rtype
