use Rattle.held_laws.proofs.KeptLemmas.{two_chains}
use Rattle.held_laws.proofs.laws.at_most_two_chains.Goals as goal

pub returns : goal.returns
returns c = two_chains
