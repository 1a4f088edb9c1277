use Rattle.forwarding.proofs.RunLemmas.{each_replied_once}
use Rattle.forwarding.proofs.laws.each_query_is_replied_to_once.Goals as goal

pub returns : goal.returns
returns c = each_replied_once
