use Rattle.std.proofs.Common.{rules}
use Rattle.std.specs.Ordering.{is_lt}
use Rattle.std.proofs.lemmas.List.Sorted.{IsPartitionPoint-from_clause}
use Rattle.zone_index.specs.Entries.{record_of, versus}
use Rattle.zone_index.proofs.SearchLemmas.{before_parted}
use Rattle.zone_index.proofs.zone_index.place_before.Goals as goal

pub returns-clause-point : goal.returns-clause-point
returns-clause-point c =
    let v = c.args.sought.now in
    let xs = c.args.entries.now in
    IsPartitionPoint-from_clause (λ e. is_lt (versus v (record_of e))) xs _ c.partition_point.ensures.partitioned (before_parted (λ e. versus v (record_of e)) xs c.requires) (λ a r q k. search rules)
