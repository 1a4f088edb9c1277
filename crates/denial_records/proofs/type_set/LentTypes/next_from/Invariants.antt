use Rattle.std.proofs.Common.{length}
use Rattle.denial_records.proofs.NextLemmas.{HaveLeft}
use Rattle.denial_records.proofs.type_set.LentTypes.next_from.Given as goal

abbrev pub invariant-loop-block : goal.invariant-loop-block
invariant-loop-block l = HaveLeft l.self l.rtype l.rest

abbrev pub decreases-loop-block : goal.decreases-loop-block
decreases-loop-block l = length l.rest
