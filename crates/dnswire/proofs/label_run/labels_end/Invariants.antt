use Rattle.std.proofs.Common.{◌-◌, ◌≤◌, List, ℕ, length}
use Rattle.dnswire.specs.Runs.{Passed, Stand}
use Rattle.dnswire.proofs.label_run.labels_end.Given as goal

abbrev pub invariant-loop-here : goal.invariant-loop-here
invariant-loop-here l = record {
  passed : Passed l.message l.at l.here;
  labels : l.here ≤ length l.message → (labels : List (List ℕ)) × Stand l.message l.at labels l.here;
}

abbrev pub decreases-loop-here : goal.decreases-loop-here
decreases-loop-here l = l.limit - l.here
