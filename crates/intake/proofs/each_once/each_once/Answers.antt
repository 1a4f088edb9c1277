use Rattle.std.proofs.Common.{arith}
use Rattle.dname.specs.Tests.{same_octets}
use Rattle.intake.proofs.OnceLemmas.{few_once}
use Rattle.intake.proofs.each_once.each_once.Goals as goal

pub returns-then-len-lt2 : goal.returns-then-len-lt2
returns-then-len-lt2 c = few_once same_octets c.args.octets (omega (arith, c.if-len-lt2.true, c.len.ensures))
