use Rattle.resolver.proofs.SoundLemmas.{walk_for_sound}
use Rattle.resolver.proofs.laws.each_query_is_answered_soundly.Goals as goal

pub returns : goal.returns
returns c = walk_for_sound c.each_answer_is_sound.ensures
