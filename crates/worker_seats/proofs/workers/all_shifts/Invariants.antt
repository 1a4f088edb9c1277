use Rattle.std.proofs.Common.{◌≡◌, ◌++◌, length, map, Ok}
use Rattle.std.specs.Vec.Iter.{into_iter_items, into_iter_len}
use Rattle.worker_seats.proofs.workers.all_shifts.Given as goal

abbrev pub invariant-loop-result : goal.invariant-loop-result
invariant-loop-result l = record {
  rest : l.yielded ++ into_iter_items l.result-iterator ≡ into_iter_items l.initial.result-iterator;
  len : into_iter_len l.result-iterator ≡ length (into_iter_items l.result-iterator);
  all : l.yielded ≡ map (λ shift. Ok shift) l.shifts.items;
}
