use Rattle.held_laws.proofs.UsableLemmas.{last_usable}
use Rattle.held_laws.proofs.laws.none_has_expired.Goals as goal

pub returns : goal.returns
returns c = last_usable
