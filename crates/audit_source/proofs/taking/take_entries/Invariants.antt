use Rattle.audit_source.specs.Pieces.{HasTaken}
use Rattle.audit_source.proofs.taking.take_entries.Given as goal

abbrev pub invariant-loop : goal.invariant-loop
invariant-loop l = HasTaken l.fn.octets l.fn.zone.apex l.counter l.zone l.refused l.rest
