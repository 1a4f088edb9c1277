use Rattle.soundness.proofs.NsecLemmas.{nsec_sound}
use Rattle.soundness.proofs.nsec.each_nsec_proof_is_sound.Goals as goal

pub returns : goal.returns
returns c = λ held now apex name qtype proof asked is. (nsec_sound held now apex name qtype asked proof is).sound
