use Rattle.stream_clients.proofs.PlaceLemmas.{gone_gets_nothing}
use Rattle.stream_clients.proofs.laws.the_gone_get_nothing.Goals as goal

pub returns : goal.returns
returns c = gone_gets_nothing
