use Rattle.std.proofs.lemmas.Result.{IfOk-weaker}
use Rattle.dnswire.proofs.MessageNameLemmas.{name_within}
use Rattle.dnswire.proofs.message_name.name_or_fault.Goals as goal

pub returns-in-Some-clause-within : goal.returns-in-Some-clause-within
returns-in-Some-clause-within c = name_within _ _ _ _ c.in-Some.ensures

pub returns-clause-within : goal.returns-clause-within
returns-clause-within c = IfOk-weaker _ _ _ (λ read at. name_within _ _ _ _ at) c.far_name.ensures.read
