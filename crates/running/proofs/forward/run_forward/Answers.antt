use Rattle.running.proofs.ForwardLemmas.{calm_of, rose_of}
use Rattle.running.proofs.forward.run_forward.Goals as goal

pub returns-clause-fault : goal.returns-clause-fault
returns-clause-fault g c = λ listen. rose_of _ _ _ c.in-Err.ensures.cause (c.unopened.ensures.refused listen)

pub returns-clause-no_fault : goal.returns-clause-no_fault
returns-clause-no_fault g c = λ want. calm_of _ _ _ c.in-Err.ensures.cause (c.unopened.ensures.want want)
