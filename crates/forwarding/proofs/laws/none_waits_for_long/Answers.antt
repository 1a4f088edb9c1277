use Rattle.forwarding.proofs.RunLemmas.{none_for_long}
use Rattle.forwarding.proofs.laws.none_waits_for_long.Goals as goal

pub returns : goal.returns
returns c = none_for_long
