use Rattle.std.proofs.Common.{arith}
use Rattle.intake.specs.Batch.{IsTaken}
use Rattle.intake.proofs.FaultLemmas.{no_taken, wire_told, refused_read, taken_read}
use Rattle.intake.proofs.intake.outcome_of.Goals as goal

pub returns-in_err-message : goal.returns-in_err-message
returns-in_err-message c = record {
  taken = no_taken c.from_residual.result c.in_err-message.field-0.0 (IsTaken c.args.octets.now c.args.now) c.from_residual.ensures.1;
  refused = wire_told c.args.octets.now c.args.now c.from_residual.result c.in_err-message.field-0.0 c.from_residual.ensures.1 c.in_err-message.ensures.refused;
}

pub taken_or_fault-requires : goal.taken_or_fault-requires
taken_or_fault-requires c = record {
  octets = c.args.octets.now;
  small = λ i. omega (arith, c.type_inv.octets i);
  reads = c.in_ok-message.ensures.read;
}

pub returns : goal.returns
returns c =
    let found = c.taken_or_fault.result in
    let reads = c.in_ok-message.ensures.read in record {
      taken = taken_read c.args.octets.now c.args.now c.in_ok-message.message found reads c.taken_or_fault.ensures.taken;
      refused = refused_read c.args.octets.now c.args.now c.in_ok-message.message found reads c.taken_or_fault.ensures.refused;
    }
