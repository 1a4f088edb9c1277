use Rattle.intake.proofs.agreed.Agreed.by.Goals as goal

pub returns-in_default : goal.returns-in_default
returns-in_default c = λ rrsig is. let same = (rw c.as_slice.ensures at c.in_default.ensures.every_rrsig) rrsig is in cc
