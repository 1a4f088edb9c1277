use Rattle.std.proofs.Common.{rules, List, ℕ}
use Rattle.std.specs.Ordering.{is_le, nat_cmp}
use Rattle.std.specs.Cmp.Lexicographic.{slice_cmp, nat_list_cmp_total}
use Rattle.std.proofs.lemmas.List.Sorted.{IsPartitionPoint-from_clause, searchable_from_sorted}
use denote.Ref.{Bor}
use Rattle.zone_index.proofs.SearchLemmas.{upto_parted}
use Rattle.zone_index.proofs.truth.item_place.Goals as goal

pub returns-clause-point : goal.returns-clause-point
returns-clause-point c =
    let xs = c.args.items.now in
    let octets = c.args.octets.now in
    IsPartitionPoint-from_clause (λ (b : Bor (List ℕ)). is_le (slice_cmp nat_cmp b.now octets)) xs _ c.partition_point.ensures.partitioned
    (upto_parted (λ (b : Bor (List ℕ)). slice_cmp nat_cmp b.now octets) xs (searchable_from_sorted nat_list_cmp_total (λ (b : Bor (List ℕ)). b.now) xs octets c.requires)) (λ a r q k. search rules)
