use Rattle.std.proofs.Common.{◌≡◌, ◌/◌, length}
use Rattle.record_store.specs.Marks.{words_mixed}
use Rattle.record_store.proofs.marks.words_mixed.Given as goal

abbrev pub invariant-loop-rest : goal.invariant-loop-rest
invariant-loop-rest l = words_mixed (length l.rest / 8) l.rest l.hash ≡ words_mixed (length l.octets / 8) l.octets 0

abbrev pub decreases-loop-rest : goal.decreases-loop-rest
decreases-loop-rest l = length l.rest
