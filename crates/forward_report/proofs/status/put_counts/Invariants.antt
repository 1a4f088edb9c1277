use Rattle.std.proofs.Common.{◌≡◌, ◌++◌, take}
use Rattle.std.specs.Prelude.{string_bytes}
use Rattle.std.specs.List.{flat_map}
use Rattle.counters.specs.declared.counter.TheConstants.Counter as counter
use Rattle.forward_report.specs.Status.{count_text}
use Rattle.forward_report.proofs.status.put_counts.Given as goal

abbrev pub invariant-loop-counter : goal.invariant-loop-counter
invariant-loop-counter l =
    string_bytes l.text ≡ string_bytes l.initial.text ++ flat_map (count_text l.family l.worker l.counts) (take l.counter-index counter.ALL)
