-- No public clause cites this module: what is looked up in the parts of a store.
use Rattle.std.specs.Prelude.{◌≡◌, IsTrue, ℕ, ◌+◌, ◌<◌, Bool, List, [], length, get_or, map, Option, Some, find}
use Rattle.std.specs.List.{Contains, list_any, prefix_len}
use Rattle.std.specs.Ordering.{is_le}
use Rattle.dname.specs.Name.{Label, canonical_cmp}
use Rattle.dname.specs.Tests.{same_name}
use Rattle.denial_records.specs.declared.record.Record.{Record}
use Rattle.denial_records.specs.declared.record.Record.TheVariants.{Set}
use Rattle.cache_meaning.specs.Held.{Held}
use Rattle.cache_meaning.specs.Zones.{chains_of}
use Rattle.held_laws.specs.HeldLaws.{NoneDisplaces}
use Rattle.ordered_list.specs.Order.{IsInOrder}
use Rattle.zone_chains.specs.Zone.{OneZone, chains_in}
use Rattle.record_store.specs.Holding.{IsZoneOf}
use Rattle.record_store.specs.Marks.{set_mark}
use Rattle.record_store.specs.Ranks.{apex_cmp, set_cmp}

-- the zone comes at or before the name in canonical order
abbrev pub is_upto : List Label → OneZone → Bool
is_upto name zone = is_le (canonical_cmp zone.apex name)

-- the name is the apex of one of the zones
abbrev pub is_apex : List OneZone → List Label → Bool
is_apex zones name = list_any (λ zone. same_name zone.apex name) zones

-- the first of the names that is
abbrev pub first_apex : List OneZone → List (List Label) → Option (List Label)
first_apex zones names = find (is_apex zones) names

-- the zone is listed, and its apex is the first of the names that is one
pub record IsFirstZone (zones : List OneZone) (names : List (List Label)) (zone : OneZone) : Type 0 where
  pub listed : Contains zones zone
  pub first : first_apex zones names ≡ Some zone.apex
  pub in_order : IsInOrder apex_cmp zones

-- the zone is the last of those at or before the name in canonical order
pub record IsLastUpTo (zones : List OneZone) (name : List Label) (zone : OneZone) : Type 0 where
  pub listed : Contains zones zone
  pub upto : IsTrue (is_upto name zone)
  pub last :
      (other : OneZone) → Contains zones other → IsTrue (is_upto name other)
      → IsTrue (is_upto zone.apex other)
  pub in_order : IsInOrder apex_cmp zones

-- the zone has the denial records and the chains of it that are held
pub record IsZoneIn (held : Held) (zone : OneZone) : Type 0 where
  pub apart : NoneDisplaces held.records
  pub its : IsZoneOf held.records zone
  pub chains : chains_of held zone.apex ≡ map (λ each. each.chain) (chains_in zone)

-- a set of the key
abbrev pub set_like : List Label → List Label → ℕ → Record
set_like zone owner rtype = Set (record {
  zone = zone;
  owner = owner;
  rtype = rtype;
  life = 0;
  expiry = 0;
  items = [];
  signatures = [];
})

-- every record comes after such a set
pub record AreAllAbove (sets : List Record) (like : Record) : Type 0 where
  pub in_order : IsInOrder set_cmp sets
  pub none : prefix_len (λ each. is_le (set_cmp each like)) sets ≡ 0

-- the record, with its number, is the last that comes before such a set or is one
pub record IsLastSet (sets : List Record) (like : Record) (mark : ℕ) (item : Record) : Type 0 where
  pub in_order : IsInOrder set_cmp sets
  pub place : ℕ
  pub within : place < length sets
  pub its : item ≡ get_or sets place item
  pub last : place + 1 ≡ prefix_len (λ each. is_le (set_cmp each like)) sets
  pub marked : mark ≡ set_mark item
