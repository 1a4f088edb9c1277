use Rattle.soundness.proofs.Nsec3Lemmas.{answer_sound}
use Rattle.soundness.proofs.nsec3.answer_by_an_nsec3_wildcard.Goals as goal

pub returns : goal.returns
returns c = λ held now apex parameters name qtype label encloser covering proof asked cover is. (answer_sound held now apex parameters name qtype asked label encloser covering cover proof is).sound
