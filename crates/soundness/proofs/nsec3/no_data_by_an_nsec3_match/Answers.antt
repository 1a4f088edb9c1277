use Rattle.soundness.proofs.Nsec3Lemmas.{match_sound}
use Rattle.soundness.proofs.nsec3.no_data_by_an_nsec3_match.Goals as goal

pub returns : goal.returns
returns c = λ held now apex parameters name qtype matching proof asked found is. (match_sound held now apex parameters name qtype asked matching proof found is).sound
