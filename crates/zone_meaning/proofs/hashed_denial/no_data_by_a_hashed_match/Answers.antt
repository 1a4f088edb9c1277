use Rattle.zone_meaning.proofs.HashedLemmas.{no_data_by_a_hash}
use Rattle.zone_meaning.proofs.hashed_denial.no_data_by_a_hashed_match.Goals as goal

pub returns : goal.returns
returns c = no_data_by_a_hash
