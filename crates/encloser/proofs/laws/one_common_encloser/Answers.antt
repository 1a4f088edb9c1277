use Rattle.encloser.proofs.EncloserLemmas.{encloser_is, one_encloser}
use Rattle.encloser.proofs.laws.one_common_encloser.Goals as goal

pub returns-clause-value : goal.returns-clause-value
returns-clause-value c = encloser_is

pub returns-clause-one : goal.returns-clause-one
returns-clause-one c = one_encloser
