use Rattle.intake.proofs.BatchLemmas.{every}
use Rattle.intake.proofs.FaultLemmas.{refused_read, taken_read}
use Rattle.intake.proofs.intake.batch_of_message.Goals as goal

pub returns-clause-every : goal.returns-clause-every
returns-clause-every c = λ octets given reads gives.
    let found = c.taken_or_fault.result in
    every octets c.args.now found given (taken_read octets c.args.now c.args.message found reads c.taken_or_fault.ensures.taken) (refused_read octets c.args.now c.args.message found reads c.taken_or_fault.ensures.refused) gives
