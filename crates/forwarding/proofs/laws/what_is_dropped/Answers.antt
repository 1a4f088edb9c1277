use Rattle.forwarding.proofs.StepLemmas.{dropped_is}
use Rattle.forwarding.proofs.laws.what_is_dropped.Goals as goal

pub returns : goal.returns
returns c = dropped_is
