use Rattle.std.proofs.Common.{◌≡◌, ◌-◌, ◌≤◌}
use Rattle.worker_seats.specs.Cuts.{parts_of}
use Rattle.worker_seats.specs.Ranges.{WritesRanges}
use Rattle.worker_seats.proofs.rounds.write_rounds.Given as goal

abbrev pub invariant-loop-next : goal.invariant-loop-next
invariant-loop-next g l = record {
  within : l.next ≤ l.ranges;
  written : WritesRanges (parts_of l.outputs) l.frames 0 l.next (g.K.Sink.written l.initial.sink) (g.K.Sink.written l.sink);
  faults : g.K.Sink.faults l.sink ≡ g.K.Sink.faults l.initial.sink;
}

abbrev pub decreases-loop-next : goal.decreases-loop-next
decreases-loop-next g l = l.ranges - l.next
