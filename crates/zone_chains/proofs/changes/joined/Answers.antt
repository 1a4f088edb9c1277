use Rattle.cache_meaning.proofs.ChainLemmas.{of_chain}
use Rattle.zone_chains.proofs.changes.joined.Goals as goal

pub with-requires : goal.with-requires
with-requires c = of_chain _ _ c.requires
