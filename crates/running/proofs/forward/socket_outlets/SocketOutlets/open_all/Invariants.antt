use Rattle.std.proofs.Common.{◌≡◌, length}
use Rattle.std.specs.Prelude.{vec_capacity}
use Rattle.running.proofs.forward.socket_outlets.SocketOutlets.open_all.Given as goal

abbrev pub invariant-loop-worker : goal.invariant-loop-worker
invariant-loop-worker g l = record {
  many : length l.opened.items ≡ l.worker;
  room : vec_capacity l.opened ≡ vec_capacity l.initial.opened;
}
