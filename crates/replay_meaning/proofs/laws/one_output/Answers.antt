use Rattle.replay_meaning.proofs.OneOutputLemmas.{has_one_output, has_one_replay}
use Rattle.replay_meaning.proofs.laws.one_output.Goals as goal

pub returns : goal.returns
returns c = record { frames = has_one_output; octets = has_one_replay }
