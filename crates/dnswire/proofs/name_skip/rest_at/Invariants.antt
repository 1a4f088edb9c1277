use Rattle.std.proofs.Common.{◌≤◌}
use Rattle.dnswire.specs.Runs.{Leads}
use Rattle.dnswire.proofs.name_skip.rest_at.Given as goal

abbrev pub invariant-loop-size : goal.invariant-loop-size
invariant-loop-size l = record {
  leads : Leads l.message l.at l.start l.size;
  within : l.size ≤ l.room;
  few : l.steps ≤ 128;
}

abbrev pub decreases-loop-size : goal.decreases-loop-size
decreases-loop-size l = l.start
