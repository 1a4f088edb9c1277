use Rattle.zone_meaning.proofs.DenialLemmas.{no_data_by_a_match}
use Rattle.zone_meaning.proofs.denial.no_data_by_a_match.Goals as goal

pub returns : goal.returns
returns c = no_data_by_a_match
