use Rattle.std.proofs.Common.{arith}
use Rattle.serving.proofs.worker_core.keep.Goals as goal

pub returns-clause-size : goal.returns-clause-size
returns-clause-size c = omega (arith, c.loop-slot.invariant.size, c.told-taken)
