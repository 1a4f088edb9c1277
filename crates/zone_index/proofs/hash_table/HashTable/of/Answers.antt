use Rattle.std.proofs.Common.{rules, refl}
use Rattle.zone_meaning.specs.Hashed.{hash_cmp}
use Rattle.zone_index.specs.declared.hash_table.HashedName.{HashedName}
use Rattle.zone_index.proofs.SearchLemmas.{sorted_by}
use Rattle.zone_index.proofs.HashLemmas.{table_of, names_total}
use Rattle.zone_index.proofs.hash_table.HashTable.of.Goals as goal

pub returns : goal.returns
returns c =
    let sorted = sorted_by (λ (x y : HashedName). hash_cmp x.hash y.hash) names_total _ c.in_ok-sort_by.ensures.sorted (λ a r q k. search rules) in
    table_of c.args.zone.now c.args.salt.now c.args.iterations c.in_ok-names.names.items _ c.in_ok-sort_by.ensures.permutation sorted c.in_ok-of.ensures refl c.in_ok-names.ensures.named c.in_ok-names.ensures.hashed
