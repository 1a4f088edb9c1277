use Rattle.std.proofs.Common.{ap, sym, arith, length, ◌+◌}
use Rattle.worker_seats.proofs.StartLemmas.{many_cuts, no_cuts}
use Rattle.worker_seats.proofs.starts.ranges_of.Goals as goal

pub returns-then-workers-eq0-clause-many : goal.returns-then-workers-eq0-clause-many
returns-then-workers-eq0-clause-many c = ap (λ n. n + 1) (sym (no_cuts (length c.args.outputs.now) c.args.frames.now (omega (arith, c.workers.ensures, c.if-workers-eq0.true)) c.requires.workers))

pub returns-clause-many : goal.returns-clause-many
returns-clause-many c = ap (λ n. n + 1) (many_cuts c.args.outputs.now c.args.frames.now c.requires.cuts 0 (omega (arith, c.workers.ensures, c.if-workers-eq0.false)) c.cuts_of.result.now c.cuts_of.ensures)
