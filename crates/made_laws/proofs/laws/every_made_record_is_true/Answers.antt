use Rattle.std.proofs.Common.{arith}
use Rattle.made_laws.proofs.TakenLemmas.{taken_true, taken_true_among}
use Rattle.made_laws.proofs.laws.every_made_record_is_true.Goals as goal

pub returns-clause-by_number : goal.returns-clause-by_number
returns-clause-by_number c = λ seed names k now taken few small gives. taken_true seed names k now taken (omega (arith, few)) small gives

pub returns-clause-among_all : goal.returns-clause-among_all
returns-clause-among_all c = λ seed names now message taken few in' gives. taken_true_among seed names now message taken (omega (arith, few)) in' gives
