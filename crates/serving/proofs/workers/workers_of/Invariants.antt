use Rattle.std.proofs.Common.{◌≡◌, ◌++◌, length, map}
use Rattle.std.specs.Prelude.{vec_capacity}
use Rattle.std.specs.Vec.Iter.{into_iter_items, into_iter_len}
use Rattle.serving.proofs.workers.workers_of.Given as goal

abbrev pub invariant-loop-seat : goal.invariant-loop-seat
invariant-loop-seat g l = record {
  rest : l.yielded ++ into_iter_items l.seat-iterator ≡ into_iter_items l.initial.seat-iterator;
  len : into_iter_len l.seat-iterator ≡ length (into_iter_items l.seat-iterator);
  seats : map (λ worker. worker.seat) l.workers.items ≡ l.yielded;
  links : map (λ worker. worker.link) l.workers.items ++ into_iter_items l.links ≡ into_iter_items l.initial.links;
  same : length (into_iter_items l.links) ≡ length (into_iter_items l.seat-iterator);
  room : vec_capacity l.workers ≡ vec_capacity l.initial.workers;
}
