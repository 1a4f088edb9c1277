use Rattle.waiting_table.proofs.OnceLemmas.{all_in_time}
use Rattle.waiting_table.proofs.laws.never_for_long.Goals as goal

pub returns : goal.returns
returns c = all_in_time
