use Rattle.std.proofs.Common.{ℕ, List, ◌∙◌, ap}
use Rattle.nsec3_hash.specs.IteratedHash.{hash_of}
use Rattle.zone_index.proofs.HashLemmas.{clash_by}
use Rattle.zone_index.proofs.hash_table.HashTable.has_clash.Goals as goal

pub returns : goal.returns
returns c =
    let hash = c.hash_name-hash.ensures ∙ ap (λ (s : List ℕ). hash_of c.args.name.now s c.args.self.now.iterations) c.as_slice.ensures in
    let h = clash_by c.args.self.now c.args.name.now c.hash_name-hash.result c.run_of.result.now hash c.run_of.ensures in
    (λ t. h.0 (c.any_other.ensures.0 t), λ has. c.any_other.ensures.1 (h.1 has))
