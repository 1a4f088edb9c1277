use Rattle.std.proofs.Common.{suc, take}
use Rattle.intake.specs.SignedGroup.{IsAgreed}
use Rattle.intake.proofs.agreed.Agreed.of.Given as goal

abbrev pub invariant-loop-octets : goal.invariant-loop-octets
invariant-loop-octets l = IsAgreed l.now (take (suc l.octets-index) l.signatures) l.agreed
