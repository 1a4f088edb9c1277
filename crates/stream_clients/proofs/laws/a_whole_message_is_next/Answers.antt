use Rattle.stream_clients.proofs.UnansweredLemmas.{whole_is_next}
use Rattle.stream_clients.proofs.laws.a_whole_message_is_next.Goals as goal

pub returns : goal.returns
returns c = whole_is_next
