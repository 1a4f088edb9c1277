use Rattle.soundness.proofs.NsecLemmas.{empty_sound}
use Rattle.soundness.proofs.nsec.no_data_by_an_empty_name.Goals as goal

pub returns : goal.returns
returns c = λ held now apex name qtype covering proof asked found is. (empty_sound held now apex name qtype asked covering proof found is).sound
