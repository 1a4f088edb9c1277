use Rattle.std.proofs.Common.{length}
use Rattle.resolver.specs.Caches.{HasGoneOn}
use Rattle.worker_seats.specs.Answering.{rule_of}
use Rattle.worker_seats.proofs.ShiftLemmas.{IsUnderWay}
use Rattle.worker_seats.proofs.shift.work_shift.Given as goal

abbrev pub invariant-loop-own : goal.invariant-loop-own
invariant-loop-own g l = record {
  on : HasGoneOn l.cache l.fn.job.seat l.seat;
  way : IsUnderWay (rule_of l.answering) l.fn.job.worker l.fn.job.seat l.seat l.frames l.rest l.call l.octets.items l.cuts.items l.passed;
}

abbrev pub decreases-loop-own : goal.decreases-loop-own
decreases-loop-own g l = length l.rest
