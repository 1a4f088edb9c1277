use Rattle.std.proofs.Common.{◌≡◌, ◌++◌, take}
use Rattle.running.proofs.forward.pass_all.Given as goal

abbrev pub invariant-loop-name : goal.invariant-loop-name
invariant-loop-name l = l.passed ≡ l.initial.passed ++ take l.name-index l.names
