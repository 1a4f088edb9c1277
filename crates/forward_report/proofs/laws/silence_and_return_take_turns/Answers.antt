use Rattle.forward_report.proofs.RunLemmas.{take_turns}
use Rattle.forward_report.proofs.laws.silence_and_return_take_turns.Goals as goal

pub returns : goal.returns
returns c = take_turns
