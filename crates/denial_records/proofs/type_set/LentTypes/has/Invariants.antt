use Rattle.std.proofs.Common.{length}
use Rattle.denial_records.proofs.TypeSetLemmas.{IsLookedUpIn}
use Rattle.denial_records.proofs.type_set.LentTypes.has.Given as goal

abbrev pub invariant-loop-block : goal.invariant-loop-block
invariant-loop-block l = IsLookedUpIn l.self l.rtype l.rest

abbrev pub decreases-loop-block : goal.decreases-loop-block
decreases-loop-block l = length l.rest
