use Rattle.zone_index.proofs.LiveLemmas.{HasRuns}
use Rattle.zone_index.proofs.zone_search.runs_of.Given as goal

abbrev pub invariant-loop-at : goal.invariant-loop-at
invariant-loop-at l = HasRuns l.zone l.live l.at l.runs.items
