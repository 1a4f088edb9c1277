use Rattle.soundness.proofs.NsecLemmas.{wildcard_sound}
use Rattle.soundness.proofs.nsec.no_data_by_an_nsec_wildcard.Goals as goal

pub returns : goal.returns
returns c = λ held now apex name qtype covering at_source proof asked cover found is. (wildcard_sound held now apex name qtype asked covering cover at_source found proof is).sound
