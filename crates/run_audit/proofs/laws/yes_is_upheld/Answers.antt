use Rattle.run_audit.proofs.UpheldLemmas.{yes_is_upheld}
use Rattle.run_audit.proofs.laws.yes_is_upheld.Goals as goal

pub returns : goal.returns
returns c = yes_is_upheld
