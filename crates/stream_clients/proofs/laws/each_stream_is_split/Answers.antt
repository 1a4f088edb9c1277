use Rattle.stream_clients.proofs.MessageLemmas.{each_stream_is_split}
use Rattle.stream_clients.proofs.laws.each_stream_is_split.Goals as goal

pub returns : goal.returns
returns c = each_stream_is_split
