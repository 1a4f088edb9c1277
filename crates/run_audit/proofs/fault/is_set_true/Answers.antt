use Rattle.run_audit.proofs.fault.is_set_true.Goals as goal

pub returns-in-Some : goal.returns-in-Some
returns-in-Some c = rw c.in-Some.is c.is_true_set.ensures
