use Rattle.waiting_table.proofs.OnceLemmas.{each_asked_once}
use Rattle.waiting_table.proofs.laws.asked_once.Goals as goal

pub returns : goal.returns
returns c = each_asked_once
