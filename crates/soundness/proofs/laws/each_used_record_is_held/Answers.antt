use Rattle.soundness.proofs.QueryLemmas.{outcome_sound}
use Rattle.soundness.proofs.laws.each_used_record_is_held.Goals as goal

pub returns : goal.returns
returns c = λ held now name qtype qclass proof is. (outcome_sound held now name qtype qclass proof is).usable
