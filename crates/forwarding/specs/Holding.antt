-- What the version of a cache holds.
use Rattle.std.specs.Prelude.{◌≡◌, List, length}
use mathlib.Core.List.{IsPrefix}
use Rattle.denial_records.specs.declared.batch.Batch.{Batch}
use Rattle.cache_meaning.specs.Held.{held_of}
use Rattle.record_store.specs.Gauges.{zone_count}
use Rattle.forwarding.specs.declared.holding.Holding.{Holding}

-- the one that these batches made
abbrev pub holding_of : List Batch → Holding
holding_of seen = record {
  records = length (held_of seen).records;
  zones = zone_count (held_of seen).records;
  chains = length (held_of seen).chains;
  version = length seen;
}

-- the one that they made, or that the first of them did
pub record WasHeld (holding : Holding) (seen : List Batch) : Type 0 where
  pub first : List Batch
  pub begins : IsPrefix first seen
  pub holding_is : holding ≡ holding_of first
