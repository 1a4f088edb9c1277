use Rattle.std.proofs.Common.{◌≡◌, ◌++◌, take}
use Rattle.std.specs.Prelude.{string_bytes}
use Rattle.std.specs.List.{enumerate_from, flat_map}
use Rattle.forward_report.specs.Status.{failures_text}
use Rattle.forward_report.proofs.status.put_faults.Given as goal

abbrev pub invariant-loop-worker : goal.invariant-loop-worker
invariant-loop-worker l =
    string_bytes l.text ≡ string_bytes l.initial.text ++ flat_map (λ (worker, report). failures_text worker report.faults) (take l.worker (enumerate_from 0 l.workers))
