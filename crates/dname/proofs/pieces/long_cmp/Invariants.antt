use Rattle.std.proofs.Common.{◌≡◌, ◌-◌, take}
use Rattle.dname.proofs.pieces.long_cmp.Given as goal

abbrev pub invariant-loop-at : goal.invariant-loop-at
invariant-loop-at l = take l.at l.octets ≡ take l.at l.others

abbrev pub decreases-loop-at : goal.decreases-loop-at
decreases-loop-at l = l.both - l.at
