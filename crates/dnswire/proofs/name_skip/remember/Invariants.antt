use Rattle.std.proofs.Common.{◌≡◌, ◌≤◌, length}
use Rattle.dnswire.specs.Runs.{AreSizes, HasSize}
use Rattle.dnswire.proofs.name_skip.remember.Given as goal

abbrev pub invariant-loop-start : goal.invariant-loop-start
invariant-loop-start l = record {
  has : HasSize l.message l.start l.size;
  small : l.size ≤ 255;
  sizes : AreSizes l.message l.sizes;
  room : length l.sizes ≡ length l.initial.sizes;
}

abbrev pub decreases-loop-start : goal.decreases-loop-start
decreases-loop-start l = l.start
