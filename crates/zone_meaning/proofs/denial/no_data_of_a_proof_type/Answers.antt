use Rattle.zone_meaning.proofs.DenialLemmas.{proof_type_no_data}
use Rattle.zone_meaning.proofs.denial.no_data_of_a_proof_type.Goals as goal

pub returns : goal.returns
returns c = proof_type_no_data
