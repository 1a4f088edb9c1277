use Rattle.std.proofs.Common.{inl, inr}
use Rattle.intake.proofs.nsec3.read_parts.Goals as goal

pub returns-in-Err-BadMap : goal.returns-in-Err-BadMap
returns-in-Err-BadMap c = λ parts is. elim (c.in-Err-BadMap.ensures.every_nsec3 parts is) [ inl same ↦ cc | inr same ↦ cc ]
