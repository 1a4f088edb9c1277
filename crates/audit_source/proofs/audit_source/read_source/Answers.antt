use Rattle.audit_source.proofs.ReadingLemmas.{every_source, every_fault}
use Rattle.audit_source.proofs.audit_source.read_source.Goals as goal

pub returns-clause-every_source : goal.returns-clause-every_source
returns-clause-every_source c = every_source c.args.octets.now c.source_of.result c.source_of.ensures.refused

pub returns-clause-every_fault : goal.returns-clause-every_fault
returns-clause-every_fault c =
    every_fault c.args.octets.now c.source_of.result (λ read. read.zone) (λ read. read.input.now) (λ read. read.output.now) c.source_of.ensures.read c.source_of.ensures.refused
