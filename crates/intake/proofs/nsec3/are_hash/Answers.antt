use Rattle.std.proofs.Common.{arith}
use Rattle.std.proofs.lemmas.List.{get_or_default}
use Rattle.intake.proofs.nsec3.are_hash.Goals as goal

pub returns : goal.returns
returns c = record { size = c.requires; octets = λ k d below. omega (arith, get_or_default c.args.octets.now k d 0 below, c.type_inv.octets k) }
