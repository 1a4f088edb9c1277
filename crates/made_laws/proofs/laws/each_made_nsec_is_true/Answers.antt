use Rattle.std.proofs.Common.{arith}
use Rattle.made_laws.proofs.TrueLemmas.{nsec_true}
use Rattle.made_laws.proofs.laws.each_made_nsec_is_true.Goals as goal

pub returns : goal.returns
returns c = λ seed names k few small. nsec_true seed names k (omega (arith, few)) small
