use Rattle.soundness.proofs.QueryLemmas.{asked_of}
use Rattle.soundness.proofs.laws.the_zone_is_asked.Goals as goal

pub returns : goal.returns
returns c = asked_of
