use Rattle.std.proofs.Common.{arith}
use Rattle.made_laws.proofs.HeldLemmas.{made_answer}
use Rattle.made_laws.proofs.laws.each_made_answer_is_the_zones.Goals as goal

pub returns : goal.returns
returns c = λ seed names now batches name qtype qclass proof few each is. made_answer seed names now batches name qtype qclass proof (omega (arith, few)) each is
