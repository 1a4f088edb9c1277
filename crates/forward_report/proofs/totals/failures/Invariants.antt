use Rattle.std.proofs.Common.{◌≡◌, take}
use Rattle.std.specs.Prelude.{sum_by}
use Rattle.forward_report.specs.Calls.{failures_in}
use Rattle.forward_report.specs.Notices.{capped}
use Rattle.forward_report.proofs.totals.failures.Given as goal

abbrev pub invariant-loop-report : goal.invariant-loop-report
invariant-loop-report l = l.sum ≡ capped (sum_by (λ report. failures_in report.faults l.call) (take l.report-index l.workers))
