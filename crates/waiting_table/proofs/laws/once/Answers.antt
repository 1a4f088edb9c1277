use Rattle.waiting_table.proofs.OnceLemmas.{each_once}
use Rattle.waiting_table.proofs.laws.once.Goals as goal

pub returns : goal.returns
returns c = each_once
