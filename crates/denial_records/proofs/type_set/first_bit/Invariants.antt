use Rattle.std.proofs.Common.{◌≡◌, ℕ, ◌<◌, ◌≤◌, false}
use Rattle.denial_records.specs.TypeSet.{has_bit}
use Rattle.denial_records.proofs.type_set.first_bit.Given as goal

abbrev pub invariant-loop-bit : goal.invariant-loop-bit
invariant-loop-bit l = (other : ℕ) → l.from ≤ other → other < l.bit → has_bit l.bitmap other ≡ false
