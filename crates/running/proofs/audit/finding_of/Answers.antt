use Rattle.std.proofs.Common.{Err, inl, inr, ap, arith}
use Rattle.denial_records.proofs.PartsLemmas.{err_same}
use Rattle.running.specs.Audit.{no_frames}
use Rattle.running.specs.declared.audit.NoFinding.TheVariants.{Refused}
use Rattle.running.proofs.AuditLemmas.{refusal_of}
use Rattle.running.proofs.audit.finding_of.Goals as goal

pub returns-in-Err-clause-refused : goal.returns-in-Err-clause-refused
returns-in-Err-clause-refused c = λ is.
    refusal_of c.args.octets.now c.in-Err.fault c.requires c.in-Err.ensures.refused (c.no_finding_of.ensures.refused (err_same c.no_finding_of.result Refused is))

pub returns-in-Err-BadInput-clause-refused : goal.returns-in-Err-BadInput-clause-refused
returns-in-Err-BadInput-clause-refused c = λ is.
    no_frames c.in-Ok.source.zone c.in-Ok.source.input.now c.in-Ok.source.output.now
    (record { size = c.requires; source = c.in-Ok.ensures.read; short = omega arith })
    (inl (c.in-Err-BadInput.ensures.bad_input (ap Err c.in-Err-BadInput.field-0-is)))

pub returns-in-Err-BadOutput-clause-refused : goal.returns-in-Err-BadOutput-clause-refused
returns-in-Err-BadOutput-clause-refused c = λ is.
    no_frames c.in-Ok.source.zone c.in-Ok.source.input.now c.in-Ok.source.output.now
    (record { size = c.requires; source = c.in-Ok.ensures.read; short = omega arith })
    (inr (c.in-Err-BadOutput.ensures.bad_output (ap Err c.in-Err-BadOutput.field-0-is)).1)
