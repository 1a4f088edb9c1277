-- No public clause cites this module: what is left where one record goes.
use Rattle.std.specs.Prelude.{◌≡◌, ◌<◌, ◌↔◌, ◌⊎◌, length, List, [], None}
use Rattle.std.specs.List.{All, Contains}
use Rattle.denial_records.specs.declared.record.Record.{Record}
use Rattle.cache_meaning.specs.Held.{chain_of, zone_of, chains_held}
use Rattle.zone_chains.specs.Zone.{OneZone, IsOneZone, chains_in, records_in}
use Rattle.record_store.specs.Holding.{IsZoneOf}

-- the sets among the records
abbrev pub AreSets : List Record → List Record → Type 0
AreSets records sets =
    (item : Record) → Contains sets item ↔ (Contains records item × (chain_of item ≡ None))

-- the zone without the record, and with the chains that still have one, in their order
pub record IsZoneLeft (gone : Record) (zone left : OneZone) : Type 0 where
  pub apex : left.apex ≡ zone.apex
  pub records :
      (item : Record) → Contains (records_in left) item
      ↔ (Contains (records_in zone) item × (item ≡ gone → ⊥))
  pub chains :
      (records : List Record) → IsZoneOf records left
      → chains_in left ≡ chains_held records (chains_in zone)
  pub used : All (λ each. 0 < length each.records) left.chains
  pub whole : IsOneZone left

-- the zones with what is left of one, of which a chain or a set is held
pub record AreWithLeft (sets : List Record) (left : OneZone) (zones made : List OneZone) : Type 0 where
  pub members :
      (each : OneZone) → Contains made each
      ↔ ((each ≡ left) ⊎ (Contains zones each × (each.apex ≡ left.apex → ⊥)))
  pub used :
      (left.chains ≡ [] → ⊥) ⊎ ((item : Record) × Contains sets item × (zone_of item ≡ left.apex))

-- the zones without one, of which neither is held
pub record AreWithoutLeft (sets : List Record) (left : OneZone) (zones made : List OneZone) : Type 0 where
  pub members :
      (each : OneZone) → Contains made each ↔ (Contains zones each × (each.apex ≡ left.apex → ⊥))
  pub no_chain : left.chains ≡ []
  pub no_set : (item : Record) → Contains sets item → zone_of item ≡ left.apex → ⊥

abbrev pub AreZonesLeft : List Record → OneZone → List OneZone → List OneZone → Type 0
AreZonesLeft sets left zones made =
    AreWithLeft sets left zones made ⊎ AreWithoutLeft sets left zones made
