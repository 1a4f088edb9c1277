use Rattle.std.proofs.Common.{rules}
use Rattle.std.specs.Ordering.{is_le}
use Rattle.std.proofs.lemmas.List.Sorted.{IsPartitionPoint-from_clause}
use Rattle.zone_meaning.specs.Hashed.{hash_cmp}
use Rattle.zone_index.specs.declared.hash_table.HashedName.{HashedName}
use Rattle.zone_index.proofs.HashLemmas.{by_hash_upto}
use Rattle.zone_index.proofs.hash_table.place_behind.Goals as goal

pub returns-clause-point : goal.returns-clause-point
returns-clause-point c =
    let xs = c.args.names.now in
    IsPartitionPoint-from_clause (λ (e : HashedName). is_le (hash_cmp e.hash c.args.hash.now)) xs _ c.partition_point.ensures.partitioned (by_hash_upto xs c.args.hash.now c.requires) (λ a r q k. search rules)
