use Rattle.zone_meaning.proofs.HashedLemmas.{name_error_by_hashes}
use Rattle.zone_meaning.proofs.hashed_denial.hashed_name_error.Goals as goal

pub returns : goal.returns
returns c = name_error_by_hashes
