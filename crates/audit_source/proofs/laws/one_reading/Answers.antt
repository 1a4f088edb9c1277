use Rattle.audit_source.proofs.SourceLemmas.{one_zone_and_run, one_fault, no_fault_of}
use Rattle.audit_source.proofs.laws.one_reading.Goals as goal

pub returns : goal.returns
returns c = record { source = one_zone_and_run; fault = one_fault; never_both = no_fault_of }
