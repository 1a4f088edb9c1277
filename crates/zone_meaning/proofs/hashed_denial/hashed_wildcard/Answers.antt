use Rattle.zone_meaning.proofs.HashedLemmas.{answer_by_hashes, no_data_by_hashes}
use Rattle.zone_meaning.proofs.hashed_denial.hashed_wildcard.Goals as goal

pub returns : goal.returns
returns c = record { answer = answer_by_hashes; no_data = no_data_by_hashes }
