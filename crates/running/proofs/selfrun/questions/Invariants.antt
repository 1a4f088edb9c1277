use Rattle.std.proofs.Common.{◌≡◌}
use Rattle.running.specs.Made.{queries_of}
use Rattle.running.proofs.selfrun.questions.Given as goal

abbrev pub invariant-loop-j : goal.invariant-loop-j
invariant-loop-j l = l.questions ≡ queries_of l.seed l.names l.j
