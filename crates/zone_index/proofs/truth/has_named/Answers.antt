use Rattle.zone_index.proofs.TruthLemmas.{named_by}
use Rattle.zone_index.proofs.truth.has_named.Goals as goal

pub returns : goal.returns
returns c =
    let h = named_by c.args.zone.now c.args.table.now c.run_of.result.now c.args.nsec3.now.hash c.hash.result.now c.args.nsec3.now.types c.types.result c.hash.ensures c.types.ensures c.run_of.ensures in
    (λ t. h.0 (c.any_agrees.ensures.0 t), λ named. c.any_agrees.ensures.1 (h.1 named))
