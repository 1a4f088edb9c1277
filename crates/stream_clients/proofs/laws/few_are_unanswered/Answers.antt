use Rattle.stream_clients.proofs.UnansweredLemmas.{few_are_unanswered}
use Rattle.stream_clients.proofs.laws.few_are_unanswered.Goals as goal

pub returns : goal.returns
returns c = few_are_unanswered
