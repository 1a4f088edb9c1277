use Rattle.std.proofs.Common.{refl}
use Rattle.audit_source.proofs.PieceLemmas.{run_no_output}
use Rattle.audit_source.proofs.reading.first_run.Goals as goal

pub returns-in_err-output-clause-none : goal.returns-in_err-output-clause-none
returns-in_err-output-clause-none c = λ _.
    run_no_output c.args.octets.now c.in_ok-input.input.now c.in_ok-input.rest.now c.in_ok-input.ensures.some (c.in_err-output.ensures.none refl)
