use Rattle.soundness.proofs.QueryLemmas.{exact_sound}
use Rattle.soundness.proofs.laws.answer_by_the_set.Goals as goal

pub returns : goal.returns
returns c = λ held now apex name qtype proof asked is. (exact_sound held now apex name qtype proof asked is).sound
