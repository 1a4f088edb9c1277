use Rattle.zone_index.proofs.TypeLemmas.{listed_by}
use Rattle.zone_index.proofs.type_bits.has_types_in.Goals as goal

pub returns : goal.returns
returns c =
    let h = listed_by c.args.records.now.zone c.args.records.now.name c.args.types.now c.entries.result.now c.entries.ensures.finds in
    (λ t. h.0 (c.are_listed.ensures.0 t), λ listed. c.are_listed.ensures.1 (h.1 listed))
