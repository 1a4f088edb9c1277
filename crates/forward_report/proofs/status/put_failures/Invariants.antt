use Rattle.std.proofs.Common.{◌≡◌, ◌++◌, take}
use Rattle.std.specs.Prelude.{string_bytes}
use Rattle.std.specs.List.{flat_map}
use Rattle.forward_report.specs.Status.{failure_text}
use Rattle.forward_report.specs.declared.call.TheConstants.Call as call
use Rattle.forward_report.proofs.status.put_failures.Given as goal

abbrev pub invariant-loop-call : goal.invariant-loop-call
invariant-loop-call l =
    string_bytes l.text ≡ string_bytes l.initial.text ++ flat_map (failure_text l.worker l.faults) (take l.call-index call.ALL)
