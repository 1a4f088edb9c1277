use Rattle.std.proofs.Common.{◌≡◌, length}
use Rattle.std.specs.List.{All}
use Rattle.serving.specs.declared.latest.Latest.{Latest}
use Rattle.serving.proofs.worker_core.WorkerCore.new.Given as goal

abbrev pub invariant-loop : goal.invariant-loop
invariant-loop l = (length l.latest.items ≡ l.counter) × All (λ (x : Latest). x.turn ≡ 255) l.latest.items
