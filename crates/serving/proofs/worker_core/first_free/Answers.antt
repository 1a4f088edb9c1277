use Rattle.std.proofs.Common.{sym, arith}
use Rattle.serving.proofs.MarkLemmas.{first_free_is, none_free}
use Rattle.serving.proofs.worker_core.first_free.Goals as goal

pub returns-then-not-taken-slot-clause-place : goal.returns-then-not-taken-slot-clause-place
returns-then-not-taken-slot-clause-place c = sym (first_free_is c.args.taken.now c.loop-slot.slot (omega arith) c.loop-slot.invariant c.if-not-taken-slot.true)

pub returns-clause-place : goal.returns-clause-place
returns-clause-place c = sym (none_free c.args.taken.now (λ k h. c.loop-slot.invariant k (omega arith)))
