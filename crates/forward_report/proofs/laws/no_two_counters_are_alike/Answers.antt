use Rattle.forward_report.proofs.ShownLemmas.{none_alike}
use Rattle.forward_report.proofs.laws.no_two_counters_are_alike.Goals as goal

pub returns : goal.returns
returns c = none_alike
