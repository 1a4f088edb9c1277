use Rattle.forward_report.proofs.RunLemmas.{minutes_apart}
use Rattle.forward_report.proofs.laws.lines_are_minutes_apart.Goals as goal

pub returns : goal.returns
returns c = minutes_apart
