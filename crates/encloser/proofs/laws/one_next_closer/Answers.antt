use Rattle.encloser.proofs.EncloserLemmas.{closer_is, one_closer}
use Rattle.encloser.proofs.laws.one_next_closer.Goals as goal

pub returns-clause-value : goal.returns-clause-value
returns-clause-value c = closer_is

pub returns-clause-one : goal.returns-clause-one
returns-clause-one c = one_closer
