use Rattle.forwarding.proofs.RunLemmas.{none_twice}
use Rattle.forwarding.proofs.laws.none_is_asked_twice.Goals as goal

pub returns : goal.returns
returns c = none_twice
