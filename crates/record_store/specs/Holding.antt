-- No public clause cites this module: how the parts of a store belong together, and what its steps make of them.
use Rattle.std.specs.Prelude.{◌≡◌, ◌<◌, ◌≤◌, ◌↔◌, ◌⊎◌, ℕ, false, List, [], drop, get_or, Option, None, length}
use Rattle.std.specs.List.{All, Contains, flat_map}
use Rattle.dname.specs.Name.{Label}
use Rattle.denial_records.specs.declared.record.Record.{Record}
use Rattle.cache_meaning.specs.Held.{Held, ZoneChain, chain_of, zone_of, displaces, chains_held}
use Rattle.held_laws.specs.HeldLaws.{NoneDisplaces, IsReordered}
use Rattle.ordered_list.specs.Order.{IsInOrder}
use Rattle.zone_chains.specs.Zone.{OneZone, chains_in, records_in, IsDenialOf, IsOneZone, is_of}
use Rattle.record_store.specs.Ranks.{going_cmp}

-- the chains of all zones
abbrev pub chains_of_zones : List OneZone → List ZoneChain
chains_of_zones zones = flat_map chains_in zones

-- the records in the order in which they go, and the chains of all zones
abbrev pub held_in : List Record → List OneZone → Held
held_in goings zones = record { records = goings; chains = chains_of_zones zones }

-- the records are in the order in which they go, and none displaces another
pub record AreGoings (goings : List Record) : Type 0 where
  pub in_order : IsInOrder going_cmp goings
  pub apart : NoneDisplaces goings

-- the zone has just the denial records of it that are held
abbrev pub IsZoneOf : List Record → OneZone → Type 0
IsZoneOf goings zone =
    (item : Record) → Contains (records_in zone) item ↔ (Contains goings item × IsDenialOf zone.apex item)

-- The sets and the zones are those of the records: each set is found by its key, each denial record in its zone, and the zones
-- are those of which a record is held, with the chains of which one is.
pub record IsTied (goings sets : List Record) (zones : List OneZone) : Type 0 where
  pub apart : NoneDisplaces goings
  pub whole : (zone : OneZone) → Contains zones zone → IsOneZone zone
  pub sets_are : (item : Record) → Contains sets item ↔ (Contains goings item × (chain_of item ≡ None))
  pub zones_are : (zone : OneZone) → Contains zones zone → IsZoneOf goings zone
  pub zone_listed :
      (item : Record) → Contains goings item
      → (zone : OneZone) × Contains zones zone × (zone.apex ≡ zone_of item)
  pub zone_used :
      (zone : OneZone) → Contains zones zone
      → (item : Record) × Contains goings item × (zone_of item ≡ zone.apex)
  pub chains_used : (zone : OneZone) → Contains zones zone → All (λ each. 0 < length each.records) zone.chains

-- the other state holds the same, and none of its records displaces another
pub record IsHeldAs (held made : Held) : Type 0 where
  pub order : IsReordered held made
  pub apart : NoneDisplaces made.records

-- the records that are left, and the chains of which one is left
abbrev pub held_rest : List Record → Held → Held
held_rest records held = record { records = records; chains = chains_held records held.chains }

-- without the first so many records
abbrev pub rest_of : ℕ → Held → Held
rest_of count held = held_rest (drop count held.records) held

-- the records that a new one doesn't displace
abbrev pub AreCleared : Record → List Record → List Record → Type 0
AreCleared new old cleared =
    (item : Record) → Contains cleared item ↔ (Contains old item × (displaces new item ≡ false))

-- the records that aren't of the chain
abbrev pub AreWithout : Option ZoneChain → List Record → List Record → Type 0
AreWithout chain old left =
    (item : Record) → Contains left item ↔ (Contains old item × (is_of chain item ≡ false))

-- the record, and those that were there
abbrev pub AreWith : Record → List Record → List Record → Type 0
AreWith new old more = (item : Record) → Contains more item ↔ ((item ≡ new) ⊎ Contains old item)

-- the records that a new one leaves: it doesn't displace them, and they aren't of the chain that goes for it
abbrev pub AreLeft : Record → Option ZoneChain → List Record → List Record → Type 0
AreLeft new third old left =
    (item : Record) → Contains left item
    ↔ (Contains old item × (displaces new item ≡ false) × (is_of third item ≡ false))

-- the record stands at a place from one up to another
abbrev pub IsAt : List Record → ℕ → ℕ → Record → Type 0
IsAt records from to item = (k : ℕ) × (from ≤ k) × (k < to) × (get_or records k item ≡ item)

-- the old ones without those that stand at the places
abbrev pub AreElsewhere : List Record → ℕ → ℕ → List Record → List Record → Type 0
AreElsewhere records from to old left =
    (item : Record) → Contains left item ↔ (Contains old item × (IsAt records from to item → ⊥))

-- without the record
abbrev pub AreBut : Record → List Record → List Record → Type 0
AreBut gone old left = (item : Record) → Contains left item ↔ (Contains old item × (item ≡ gone → ⊥))

-- the zones with one at the apex: one of them, or one without chains where none is
pub record IsWithApex (name : List Label) (zones made : List OneZone) : Type 0 where
  pub zone : OneZone
  pub at : zone.apex ≡ name
  pub its :
      Contains zones zone
      ⊎ ((zone.chains ≡ []) × ((each : OneZone) → Contains zones each → each.apex ≡ name → ⊥))
  pub members :
      (each : OneZone) → Contains made each
      ↔ ((each ≡ zone) ⊎ (Contains zones each × (each.apex ≡ zone.apex → ⊥)))
