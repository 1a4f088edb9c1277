use Rattle.std.proofs.Common.{◌≡◌, ◌-◌, ◌*◌, ◌≤◌, length}
use Rattle.worker_seats.specs.declared.cut.TheConstants.{RANGE}
use Rattle.worker_seats.proofs.StartLemmas.{HasPlaces}
use Rattle.worker_seats.proofs.starts.places_at.Given as goal

abbrev pub invariant-loop-worker : goal.invariant-loop-worker
invariant-loop-worker l = record {
  room : length l.places ≡ 256;
  few : l.worker ≤ 256;
  within : l.worker ≤ length l.outputs;
  places : HasPlaces l.outputs l.frames (RANGE * l.fn.range) l.worker l.places;
}

abbrev pub decreases-loop-worker : goal.decreases-loop-worker
decreases-loop-worker l = 256 - l.worker
