use Rattle.forward_report.proofs.RunLemmas.{what_is_new}
use Rattle.forward_report.proofs.laws.lines_count_what_is_new.Goals as goal

pub returns : goal.returns
returns c = what_is_new
