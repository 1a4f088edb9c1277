use Rattle.stream_clients.proofs.RunLemmas.{each_has_its_number}
use Rattle.stream_clients.proofs.laws.each_has_its_number.Goals as goal

pub returns : goal.returns
returns c = each_has_its_number
