use Rattle.soundness.proofs.Nsec3Lemmas.{wildcard_sound}
use Rattle.soundness.proofs.nsec3.no_data_by_an_nsec3_wildcard.Goals as goal

pub returns : goal.returns
returns c = λ held now apex parameters name qtype label encloser covering matching at_source proof asked cover shown found is. (wildcard_sound held now apex parameters name qtype asked label encloser covering cover matching at_source shown found proof is).sound
