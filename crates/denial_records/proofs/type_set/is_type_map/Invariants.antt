use Rattle.std.proofs.Common.{length}
use Rattle.denial_records.proofs.TypeSetLemmas.{HasLeft}
use Rattle.denial_records.proofs.type_set.is_type_map.Given as goal

abbrev pub invariant-loop-rest : goal.invariant-loop-rest
invariant-loop-rest l = HasLeft l.octets l.least l.rest

abbrev pub decreases-loop-rest : goal.decreases-loop-rest
decreases-loop-rest l = length l.rest
