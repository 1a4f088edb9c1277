use Rattle.soundness.proofs.QueryLemmas.{outcome_sound}
use Rattle.soundness.proofs.laws.each_answer_is_sound.Goals as goal

pub returns : goal.returns
returns c = λ held now name qtype qclass proof is. (outcome_sound held now name qtype qclass proof is).sound
