use Rattle.stream_clients.proofs.ReplyLemmas.{each_gets_its_replies}
use Rattle.stream_clients.proofs.laws.each_gets_its_replies.Goals as goal

pub returns : goal.returns
returns c = each_gets_its_replies
