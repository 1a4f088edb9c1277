use Rattle.forwarding.proofs.RunLemmas.{each_streamed_once}
use Rattle.forwarding.proofs.laws.each_is_asked_by_stream_once.Goals as goal

pub returns : goal.returns
returns c = each_streamed_once
