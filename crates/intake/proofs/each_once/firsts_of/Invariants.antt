use Rattle.std.proofs.Common.{◌≡◌, length}
use Rattle.intake.proofs.NewLemmas.{HasTaken}
use Rattle.intake.proofs.each_once.firsts_of.Given as goal

abbrev pub invariant-loop-item : goal.invariant-loop-item
invariant-loop-item l = (l.at ≡ length l.yielded) × HasTaken l.fn.octets l.at l.kept
