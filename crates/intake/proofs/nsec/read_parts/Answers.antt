use Rattle.std.proofs.Common.{inl, inr}
use Rattle.intake.proofs.nsec.read_parts.Goals as goal

pub returns-in-Err-BadName : goal.returns-in-Err-BadName
returns-in-Err-BadName c = λ parts is. elim (c.in-Err-BadName.ensures.every_nsec parts is) [ inl same ↦ cc | inr same ↦ cc ]

pub returns-in-Err-BadMap : goal.returns-in-Err-BadMap
returns-in-Err-BadMap c = λ parts is. elim (c.in-Err-BadMap.ensures.every_nsec parts is) [ inl same ↦ cc | inr same ↦ cc ]
