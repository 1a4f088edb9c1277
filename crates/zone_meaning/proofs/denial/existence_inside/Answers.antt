use Rattle.zone_meaning.proofs.WildcardLemmas.{no_name, empty_name}
use Rattle.zone_meaning.proofs.denial.existence_inside.Goals as goal

pub returns : goal.returns
returns c = record { no_name = no_name; empty_name = empty_name }
