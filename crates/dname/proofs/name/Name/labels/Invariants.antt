use Rattle.std.proofs.Common.{◌≡◌, ◌+◌, length}
use Rattle.dname.proofs.name.Name.labels.Given as goal

abbrev pub invariant-loop-labels : goal.invariant-loop-labels
invariant-loop-labels l = l.count + length l.labels ≡ length l.self

abbrev pub decreases-loop-labels : goal.decreases-loop-labels
decreases-loop-labels l = length l.labels
