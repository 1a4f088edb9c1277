use Rattle.replay_meaning.proofs.FrameLemmas.{inputs_have_one, outputs_have_one}
use Rattle.replay_meaning.proofs.laws.one_spelling.Goals as goal

pub returns : goal.returns
returns c = record { inputs = inputs_have_one; outputs = outputs_have_one }
