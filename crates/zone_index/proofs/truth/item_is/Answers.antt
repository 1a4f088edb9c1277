use Rattle.zone_index.proofs.TruthLemmas.{item_by}
use Rattle.zone_index.proofs.truth.item_is.Goals as goal

pub returns : goal.returns
returns c = λ d. item_by c.args.items.now c.args.at c.args.octets.now d _ c.eq.result c.requires c.eq.ensures
