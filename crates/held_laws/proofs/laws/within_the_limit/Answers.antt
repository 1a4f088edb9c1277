use Rattle.held_laws.proofs.RankLemmas.{all_within}
use Rattle.held_laws.proofs.laws.within_the_limit.Goals as goal

pub returns : goal.returns
returns c = all_within
