use Rattle.std.proofs.Common.{Ok, Err}
use Rattle.intake.proofs.BatchLemmas.{every}
use Rattle.intake.proofs.intake.batch_of.Goals as goal

pub returns-clause-every_taken : goal.returns-clause-every_taken
returns-clause-every_taken c = λ taken is. every c.args.octets.now c.args.now c.outcome_of.result (Ok taken) c.outcome_of.ensures.taken c.outcome_of.ensures.refused is

pub returns-clause-every_refused : goal.returns-clause-every_refused
returns-clause-every_refused c = λ fault is. every c.args.octets.now c.args.now c.outcome_of.result (Err fault) c.outcome_of.ensures.taken c.outcome_of.ensures.refused is
