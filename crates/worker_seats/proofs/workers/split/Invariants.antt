use Rattle.std.proofs.Common.{◌≡◌, ◌++◌, length, map}
use Rattle.std.specs.Vec.Iter.{into_iter_items, into_iter_len}
use Rattle.worker_seats.specs.Work.{part_of}
use Rattle.worker_seats.proofs.workers.split.Given as goal

abbrev pub invariant-loop-shift : goal.invariant-loop-shift
invariant-loop-shift l = record {
  rest : l.yielded ++ into_iter_items l.shift-iterator ≡ into_iter_items l.initial.shift-iterator;
  len : into_iter_len l.shift-iterator ≡ length (into_iter_items l.shift-iterator);
  seats : l.seats.items ≡ map (λ shift. shift.seat) l.yielded;
  parts : l.parts.items ≡ map part_of l.yielded;
}
