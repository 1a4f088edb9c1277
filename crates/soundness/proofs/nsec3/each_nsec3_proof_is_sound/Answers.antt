use Rattle.soundness.proofs.Nsec3Lemmas.{nsec3_sound}
use Rattle.soundness.proofs.nsec3.each_nsec3_proof_is_sound.Goals as goal

pub returns : goal.returns
returns c = λ held now apex parameters name qtype proof asked is. (nsec3_sound held now apex parameters name qtype asked proof is).sound
