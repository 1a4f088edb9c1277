use Rattle.forwarding.proofs.StepLemmas.{each_turn_steps}
use Rattle.forwarding.proofs.laws.each_turn_is_a_step.Goals as goal

pub returns : goal.returns
returns c = each_turn_steps
