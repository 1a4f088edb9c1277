use Rattle.std.proofs.Common.{arith}
use Rattle.serving.specs.Pending.{empty_table}
use Rattle.serving.proofs.LatestLemmas.{empty-slots_of}
use Rattle.serving.proofs.worker_core.WorkerCore.new.Goals as goal

pub returns : goal.returns
unfolding empty_table
returns c = empty-slots_of 256 c.loop.latest.items (omega arith) c.loop.invariant.1
