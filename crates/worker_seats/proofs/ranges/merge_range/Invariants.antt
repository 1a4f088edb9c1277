use Rattle.std.proofs.Common.{◌≡◌, ℕ, ◌-◌, ◌+◌, ◌*◌, ◌≤◌, List, ◌++◌, take}
use Rattle.replay_meaning.specs.OutFrame.{outputs_spelling}
use Rattle.worker_seats.specs.Cuts.{parts_of}
use Rattle.worker_seats.specs.Merge.{AreMerged}
use Rattle.worker_seats.specs.declared.cut.TheConstants.{RANGE}
use Rattle.worker_seats.proofs.MergeLemmas.{StandsAt}
use Rattle.worker_seats.proofs.ranges.merge_range.Given as goal

abbrev pub invariant-loop-passed : goal.invariant-loop-passed
invariant-loop-passed l = record {
  few : l.passed ≤ RANGE;
  done : ℕ;
  so_far : done ≡ RANGE * l.range + l.passed;
  stands : StandsAt (parts_of l.outputs) l.frames done l.rest l.places;
  merged : (octets : List ℕ) (merged : AreMerged (parts_of l.outputs) l.frames octets)
      → outputs_spelling (take done merged.outputs) ≡ outputs_spelling (take (RANGE * l.range) merged.outputs) ++ l.buffer.items;
}

abbrev pub decreases-loop-passed : goal.decreases-loop-passed
decreases-loop-passed l = RANGE - l.passed
