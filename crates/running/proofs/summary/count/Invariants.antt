use Rattle.std.proofs.Common.{length}
use Rattle.running.proofs.CountLemmas.{HasCounted}
use Rattle.running.proofs.summary.count.Given as goal

abbrev pub invariant-loop-kind : goal.invariant-loop-kind
invariant-loop-kind l = HasCounted l.counted l.output l.rest l.number

abbrev pub decreases-loop-kind : goal.decreases-loop-kind
decreases-loop-kind l = length l.rest
