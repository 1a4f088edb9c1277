use Rattle.std.proofs.Common.{◌+◌, ◌-◌}
use Rattle.dname.proofs.WireLemmas.{IsLowered}
use Rattle.dname.proofs.wire.lower_between.Given as goal

abbrev pub invariant-loop-k : goal.invariant-loop-k
invariant-loop-k l = IsLowered l.initial.store l.store l.at (l.at + l.k)

abbrev pub invariant-loop-at : goal.invariant-loop-at
invariant-loop-at l = IsLowered l.initial.store l.store l.start l.at

abbrev pub invariant-loop-at-2 : goal.invariant-loop-at-2
invariant-loop-at-2 l = IsLowered l.initial.store l.store l.initial.at l.at

abbrev pub decreases-loop-at-2 : goal.decreases-loop-at-2
decreases-loop-at-2 l = l.end - l.at

abbrev pub decreases-loop-at : goal.decreases-loop-at
decreases-loop-at l = l.end - l.at
