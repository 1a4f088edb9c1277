use Rattle.replay_meaning.proofs.SoundLemmas.{replies_are_sound}
use Rattle.replay_meaning.proofs.laws.replies_are_sound.Goals as goal

pub returns : goal.returns
returns c inputs workers placed outputs fits = replies_are_sound workers placed inputs outputs fits.each
