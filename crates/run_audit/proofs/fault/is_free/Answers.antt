use Rattle.run_audit.proofs.fault.is_free.Goals as goal

pub returns-in-Some-clause-free : goal.returns-in-Some-clause-free
returns-in-Some-clause-free c = rw c.in-Some.is c.is_clash_free.ensures.is
