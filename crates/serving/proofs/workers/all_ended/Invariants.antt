use Rattle.std.proofs.Common.{◌≡◌, ◌++◌, length, map}
use Rattle.std.specs.Prelude.{vec_capacity}
use Rattle.std.specs.Vec.Iter.{into_iter_items, into_iter_len}
use Rattle.serving.specs.Workers.{IsWorst}
use Rattle.serving.proofs.workers.all_ended.Given as goal

abbrev pub invariant-loop-worker : goal.invariant-loop-worker
invariant-loop-worker g l = record {
  rest : l.yielded ++ into_iter_items l.worker-iterator ≡ into_iter_items l.initial.worker-iterator;
  len : into_iter_len l.worker-iterator ≡ length (into_iter_items l.worker-iterator);
  seats : l.seats.items ≡ map (λ worker. worker.seat) l.yielded;
  links : l.links.items ≡ map (λ worker. worker.link) l.yielded;
  ended : IsWorst l.ended (map (λ worker. worker.ended) l.yielded);
  seats_room : vec_capacity l.seats ≡ vec_capacity l.initial.seats;
  links_room : vec_capacity l.links ≡ vec_capacity l.initial.links;
}
