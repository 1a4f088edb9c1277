use Rattle.std.proofs.Common.{◌≡◌, ◌++◌, length, map}
use Rattle.std.specs.Vec.Iter.{into_iter_items, into_iter_len}
use Rattle.running.proofs.forward.workers_of.Given as goal

abbrev pub invariant-loop-seat : goal.invariant-loop-seat
invariant-loop-seat g l = record {
  rest : l.yielded ++ into_iter_items l.seat-iterator ≡ into_iter_items l.initial.seat-iterator;
  len : into_iter_len l.seat-iterator ≡ length (into_iter_items l.seat-iterator);
  seats : map (λ worker. worker.seat) l.workers.items ≡ l.yielded;
  outlets : map (λ worker. worker.outlet) l.workers.items ++ into_iter_items l.opened ≡ into_iter_items l.initial.opened;
  same : length (into_iter_items l.opened) ≡ length (into_iter_items l.seat-iterator);
}
