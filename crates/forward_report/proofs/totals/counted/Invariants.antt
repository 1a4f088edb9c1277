use Rattle.std.proofs.Common.{◌≡◌, take}
use Rattle.std.specs.Prelude.{sum_by}
use Rattle.counters.specs.Counts.{count_of}
use Rattle.forward_report.specs.Notices.{capped}
use Rattle.forward_report.proofs.totals.counted.Given as goal

abbrev pub invariant-loop-report : goal.invariant-loop-report
invariant-loop-report l = l.sum ≡ capped (sum_by (λ report. count_of report.counts l.counter) (take l.report-index l.workers))
