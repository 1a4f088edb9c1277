use Rattle.std.proofs.Common.{arith}
use Rattle.made_laws.proofs.WholeLemmas.{all_taken}
use Rattle.made_laws.proofs.laws.every_made_message_is_taken.Goals as goal

pub returns : goal.returns
returns c = λ seed names k now few small early. all_taken seed names k now small early (omega (arith, few))
