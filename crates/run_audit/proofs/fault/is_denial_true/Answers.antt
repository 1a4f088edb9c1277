use Rattle.run_audit.proofs.fault.is_denial_true.Goals as goal

pub returns-in-Some-clause-is : goal.returns-in-Some-clause-is
returns-in-Some-clause-is c = rw c.in-Some.is c.is_true_denial.ensures.is
