use Rattle.std.proofs.Common.{◌≡◌, ◌+◌, ◌++◌, length}
use Rattle.std.specs.Vec.Iter.{into_iter_items, into_iter_len}
use Rattle.worker_seats.specs.Cuts.{parts_of}
use Rattle.worker_seats.specs.Ranges.{WritesRanges}
use Rattle.worker_seats.proofs.rounds.write_round.Given as goal

abbrev pub invariant-loop-result : goal.invariant-loop-result
invariant-loop-result g l = record {
  rest : l.yielded ++ into_iter_items l.result-iterator ≡ into_iter_items l.initial.result-iterator;
  len : into_iter_len l.result-iterator ≡ length (into_iter_items l.result-iterator);
  next : l.next ≡ l.first + length l.yielded;
  written : WritesRanges (parts_of l.outputs) l.frames l.first l.next (g.K.Sink.written l.initial.sink) (g.K.Sink.written l.sink);
  faults : g.K.Sink.faults l.sink ≡ g.K.Sink.faults l.initial.sink;
}
