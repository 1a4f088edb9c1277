use Rattle.std.proofs.Common.{◌+◌, arith}
use Rattle.dnswire.proofs.ExpansionLemmas.{runs_past}
use Rattle.dnswire.proofs.data.append_far_name.Goals as goal

pub overflow_add-at : goal.overflow_add-at
overflow_add-at c = omega (arith, (rw c.in-Ok-Some.field-0-is at c.in-Ok-Some.ensures.within).1)

pub returns-in-Ok-Some-clause-ok : goal.returns-in-Ok-Some-clause-ok
returns-in-Ok-Some-clause-ok c = runs_past _ _ _ _ (c.args.at + 2) (rw c.in-Ok-Some.field-0-is at c.in-Ok-Some.ensures.read) (omega (arith, c.if-at-stop.true))

pub returns-then-end-stop-clause-ok : goal.returns-then-end-stop-clause-ok
returns-then-end-stop-clause-ok c = runs_past _ _ _ _ c.in-Ok.end c.in-Ok.ensures.read (omega (arith, c.if-end-stop.true))
