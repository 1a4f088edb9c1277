use Rattle.std.proofs.Common.{◌≡◌, take, All, true}
use Rattle.std.specs.Prelude.{not}
use Rattle.forwarding.specs.Passed.{is_left_out}
use Rattle.forwarding.proofs.storing.has_left_out.Given as goal

-- none of the records before is left out
abbrev pub invariant-loop-i : goal.invariant-loop-i
invariant-loop-i l = All (λ kept. not (is_left_out l.passed kept) ≡ true) (take l.i l.records)
