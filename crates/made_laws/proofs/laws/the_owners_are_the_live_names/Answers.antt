use Rattle.std.proofs.Common.{arith}
use Rattle.made_laws.proofs.OrderLemmas.{owners_rise}
use Rattle.made_laws.proofs.RecordLemmas.{live_at, live_has_number}
use Rattle.made_laws.proofs.laws.the_owners_are_the_live_names.Goals as goal

pub returns-clause-live : goal.returns-clause-live
returns-clause-live c = λ seed names k few small. live_at seed names k (omega (arith, few)) small

pub returns-clause-no_other : goal.returns-clause-no_other
returns-clause-no_other c = λ seed names name live. let h = live_has_number seed names name live in (h.number, h.small, h.name_is)

pub returns-clause-in_order : goal.returns-clause-in_order
returns-clause-in_order c = λ i j less small. owners_rise i j less (omega (arith, small))
