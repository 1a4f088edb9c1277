use Rattle.zone_meaning.proofs.SomeAnswer.{some_answer}
use Rattle.zone_meaning.proofs.lookup.some_answer.Goals as goal

pub returns : goal.returns
returns c = some_answer
