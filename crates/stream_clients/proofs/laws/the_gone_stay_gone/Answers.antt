use Rattle.stream_clients.proofs.RunLemmas.{gone_stay_gone}
use Rattle.stream_clients.proofs.laws.the_gone_stay_gone.Goals as goal

pub returns : goal.returns
returns c = gone_stay_gone
