-- How much is held.
use Rattle.std.specs.Prelude.{ℕ, List, map}
use Rattle.std.specs.Set.{distinct_count}
use Rattle.dname.specs.Tests.{same_name}
use Rattle.denial_records.specs.declared.record.Record.{Record}
use Rattle.cache_meaning.specs.Held.{zone_of}

-- of how many zones there is a record: the apexes of the records' zones, of which equal ones count once
abbrev pub zone_count : List Record → ℕ
zone_count records = distinct_count same_name (map zone_of records)
