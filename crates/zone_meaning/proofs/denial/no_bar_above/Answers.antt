use Rattle.zone_meaning.proofs.CoveredLemmas.{no_bar_above}
use Rattle.zone_meaning.proofs.denial.no_bar_above.Goals as goal

pub returns : goal.returns
returns c = λ zone part name nsec inside. no_bar_above zone part nsec name inside
