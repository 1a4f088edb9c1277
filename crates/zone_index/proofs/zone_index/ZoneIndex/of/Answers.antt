use Rattle.std.proofs.Common.{rules}
use Rattle.zone_index.proofs.EntryLemmas.{sorted_from_clause, moved_index, moved_zone}
use Rattle.zone_index.proofs.zone_index.ZoneIndex.of.Goals as goal

pub invariant_of-result : goal.invariant_of-result
invariant_of-result c = moved_index c.args.apex c.args.entries.items _ c.in_ok-sort_by.ensures.permutation c.requires (sorted_from_clause _ c.in_ok-sort_by.ensures.sorted (λ a r q k. search rules))

pub returns : goal.returns
returns c = moved_zone c.args.apex c.args.entries.items _ c.in_ok-sort_by.ensures.permutation
