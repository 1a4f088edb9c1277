use Rattle.soundness.proofs.NsecLemmas.{match_sound}
use Rattle.soundness.proofs.nsec.no_data_by_an_nsec_match.Goals as goal

pub returns : goal.returns
returns c = λ held now apex name qtype matching proof asked found is. (match_sound held now apex name qtype asked matching proof found is).sound
