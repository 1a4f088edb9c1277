-- No public clause cites this module: the zone that a record is put in.
use Rattle.std.specs.Prelude.{◌≡◌, ◌<◌, List, length, filter}
use Rattle.std.specs.List.{All}
use Rattle.dname.specs.Tests.{same_name}
use Rattle.denial_records.specs.declared.record.Record.{Record}
use Rattle.cache_meaning.specs.Held.{Held, ZoneChain, zone_of}
use Rattle.zone_chains.specs.Zone.{OneZone, chains_in, IsOneZone}
use Rattle.record_store.specs.Holding.{IsZoneOf}

-- the chains of the record's zone
abbrev pub chains_for : Held → Record → List ZoneChain
chains_for held item = filter (λ chain. same_name chain.zone (zone_of item)) held.chains

-- the record's zone, as it is held
pub record IsZoneFor (held : Held) (item : Record) (zone : OneZone) : Type 0 where
  pub apex : zone.apex ≡ zone_of item
  pub whole : IsOneZone zone
  pub its : IsZoneOf held.records zone
  pub chains : chains_in zone ≡ chains_for held item
  pub used : All (λ each. 0 < length each.records) zone.chains
