use Rattle.zone_meaning.proofs.WildcardLemmas.{name_error}
use Rattle.zone_meaning.proofs.denial.name_error.Goals as goal

pub returns : goal.returns
returns c = name_error
