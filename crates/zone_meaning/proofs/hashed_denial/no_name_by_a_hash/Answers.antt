use Rattle.zone_meaning.proofs.HashedLemmas.{no_name_by_a_hash}
use Rattle.zone_meaning.proofs.hashed_denial.no_name_by_a_hash.Goals as goal

pub returns : goal.returns
returns c = no_name_by_a_hash
