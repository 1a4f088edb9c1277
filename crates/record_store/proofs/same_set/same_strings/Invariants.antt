use Rattle.std.proofs.Common.{◌≡◌, ◌↔◌, length}
use Rattle.record_store.proofs.same_set.same_strings.Given as goal

abbrev pub invariant-loop-piece : goal.invariant-loop-piece
invariant-loop-piece l = (l.fn.one ≡ l.fn.other) ↔ (l.rest ≡ l.others)

abbrev pub decreases-loop-piece : goal.decreases-loop-piece
decreases-loop-piece l = length l.rest
