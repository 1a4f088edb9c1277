use Rattle.zone_index.proofs.LiveLemmas.{HasMet}
use Rattle.zone_index.proofs.live_names.live_owners.Given as goal

abbrev pub invariant-loop-at : goal.invariant-loop-at
invariant-loop-at l = HasMet l.zone l.entries l.at l.names.items
