use Rattle.std.proofs.Common.{rules, List}
use Rattle.std.specs.Ordering.{is_le}
use Rattle.std.proofs.lemmas.List.Sorted.{IsPartitionPoint-from_clause, searchable_from_sorted}
use Rattle.dname.specs.Name.{Label, canonical_cmp}
use Rattle.dname.specs.Order.{canonical_total}
use Rattle.zone_index.proofs.SearchLemmas.{upto_parted}
use Rattle.zone_index.proofs.live_names.place_behind.Goals as goal

pub returns-clause-point : goal.returns-clause-point
returns-clause-point c =
    let xs = c.args.names.now in
    let name = c.args.name.now in
    IsPartitionPoint-from_clause (λ (n : List Label). is_le (canonical_cmp n name)) xs _ c.partition_point.ensures.partitioned
    (upto_parted (λ n. canonical_cmp n name) xs (searchable_from_sorted canonical_total (λ n. n) xs name c.requires)) (λ a r q k. search rules)
