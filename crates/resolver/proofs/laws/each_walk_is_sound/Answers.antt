use Rattle.resolver.proofs.SoundLemmas.{walk_sound}
use Rattle.resolver.proofs.laws.each_walk_is_sound.Goals as goal

pub returns : goal.returns
returns c = λ rule held now name qtype walk ordinary is. walk_sound c.each_answer_is_sound.ensures rule held now qtype ordinary name walk is
