use Rattle.forward_report.proofs.ShownLemmas.{shown_once}
use Rattle.forward_report.proofs.laws.each_counter_is_shown_once.Goals as goal

pub returns : goal.returns
returns c = shown_once
