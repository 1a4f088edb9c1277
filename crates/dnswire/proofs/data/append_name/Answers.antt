use Rattle.std.proofs.Common.{arith}
use Rattle.dnswire.proofs.ExpansionLemmas.{runs_past}
use Rattle.dnswire.proofs.data.append_name.Goals as goal

pub returns-then-whole-stop-clause-ok : goal.returns-then-whole-stop-clause-ok
returns-then-whole-stop-clause-ok c = runs_past _ _ _ _ c.in-Some.whole.end c.in-Some.ensures.read (omega (arith, c.if-whole-stop.true))
