use Rattle.soundness.proofs.NsecLemmas.{error_sound}
use Rattle.soundness.proofs.nsec.name_error_by_nsecs.Goals as goal

pub returns : goal.returns
returns c = λ held now apex name qtype covering at_source proof asked cover found is. (error_sound held now apex name qtype asked covering cover at_source found proof is).sound
