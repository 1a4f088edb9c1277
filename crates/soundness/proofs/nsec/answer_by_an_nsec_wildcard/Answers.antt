use Rattle.soundness.proofs.NsecLemmas.{answer_sound}
use Rattle.soundness.proofs.nsec.answer_by_an_nsec_wildcard.Goals as goal

pub returns : goal.returns
returns c = λ held now apex name qtype covering proof asked cover is. (answer_sound held now apex name qtype asked covering cover proof is).sound
