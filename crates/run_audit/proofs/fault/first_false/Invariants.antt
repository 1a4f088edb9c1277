use Rattle.std.proofs.Common.{◌≡◌}
use Rattle.soundness.specs.True.{IsTrueOf}
use Rattle.run_audit.specs.Faults.{parts_of}
use Rattle.run_audit.proofs.FaultLemmas.{HasPassed}
use Rattle.run_audit.proofs.fault.first_false.Given as goal

abbrev pub invariant-loop-part : goal.invariant-loop-part
invariant-loop-part l = record {
  same : l.search ≡ l.fn.search;
  passed : HasPassed (IsTrueOf l.fn.search) (parts_of l.verdict) l.part l.used;
}
