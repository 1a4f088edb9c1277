use Rattle.std.proofs.Common.{◌≡◌, ℕ, ◌-◌, ◌+◌, ◌<◌, ◌≤◌, length, get_or}
use Rattle.worker_seats.specs.declared.ranges.RangeJob.{RangeJob}
use Rattle.worker_seats.proofs.ranges.jobs_from.Given as goal

abbrev pub invariant-loop-range : goal.invariant-loop-range
invariant-loop-range l = record {
  all : l.first + length l.jobs.items ≡ l.range;
  within : l.range ≤ l.until;
  each : (place : ℕ) (d : RangeJob) → place < length l.jobs.items → (get_or l.jobs.items place d).range ≡ l.first + place;
}

abbrev pub decreases-loop-range : goal.decreases-loop-range
decreases-loop-range l = l.until - l.range
