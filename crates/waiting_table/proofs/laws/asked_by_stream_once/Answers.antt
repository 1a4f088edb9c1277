use Rattle.waiting_table.proofs.StreamLemmas.{each_by_stream_once}
use Rattle.waiting_table.proofs.laws.asked_by_stream_once.Goals as goal

pub returns : goal.returns
returns c = each_by_stream_once
