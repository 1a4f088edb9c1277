use Rattle.std.proofs.Common.{◌≡◌, drop}
use Rattle.dname.proofs.packed.Packed.behind.Given as goal

abbrev pub invariant-loop : goal.invariant-loop
invariant-loop l = l.rest ≡ drop l.counter l.self
