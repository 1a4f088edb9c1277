use Rattle.std.proofs.Common.{Some, ap}
use Rattle.command_line.specs.Words.{texts}
use Rattle.command_line.specs.declared.command.Command.TheVariants.{Forward}
use Rattle.command_line.proofs.ForwardLemmas.{fault_refutes, one_meaning}
use Rattle.command_line.proofs.command.forward_of.Goals as goal

pub returns-in-Ok-clause-every : goal.returns-in-Ok-clause-every
returns-in-Ok-clause-every c = λ settings asks.
    ap (λ s. Some (Forward s)) (one_meaning (texts c.args.options.now) c.in-Ok.settings settings c.in-Ok.ensures.read asks)

pub returns-in-Err-Faulty-clause-every : goal.returns-in-Err-Faulty-clause-every
returns-in-Err-Faulty-clause-every c = λ settings asks.
    let told = rw c.in-Err-Faulty.field-0-is at c.in-Err-Faulty.ensures.told in
    absurd (fault_refutes (texts c.args.options.now) c.in-Err-Faulty.field-0-0 settings told asks)
