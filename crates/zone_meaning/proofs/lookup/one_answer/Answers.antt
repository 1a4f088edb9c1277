use Rattle.zone_meaning.proofs.LookupLemmas.{one_answer}
use Rattle.zone_meaning.proofs.lookup.one_answer.Goals as goal

pub returns : goal.returns
returns c = one_answer
