use Rattle.soundness.proofs.Nsec3Lemmas.{error_sound}
use Rattle.soundness.proofs.nsec3.name_error_by_nsec3s.Goals as goal

pub returns : goal.returns
returns c = λ held now apex parameters name qtype label encloser covering matching at_source proof asked cover shown found is. (error_sound held now apex parameters name qtype asked label encloser covering cover matching at_source shown found proof is).sound
