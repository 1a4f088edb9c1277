use Rattle.stream_clients.proofs.PlaceLemmas.{others_left_alone}
use Rattle.stream_clients.proofs.laws.others_are_left_alone.Goals as goal

pub returns : goal.returns
returns c = others_left_alone
