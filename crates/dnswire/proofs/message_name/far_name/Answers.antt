use Rattle.std.proofs.Common.{◌+◌, arith}
use Rattle.dnswire.proofs.ExpansionLemmas.{out_form, out_read}
use Rattle.dnswire.proofs.message_name.far_name.Goals as goal

pub of_wire-requires : goal.of_wire-requires
of_wire-requires c = out_form _ _ _ (c.args.at + 2) _ (rw c.in-Ok-Some.field-0-is at c.in-Ok-Some.ensures.read) c.octets_of.ensures

pub overflow_add-result : goal.overflow_add-result
overflow_add-result c = omega (arith, (rw c.in-Ok-Some.field-0-is at c.in-Ok-Some.ensures.within).1)

pub returns-in-Ok-Some-clause-read : goal.returns-in-Ok-Some-clause-read
returns-in-Ok-Some-clause-read c = out_read _ _ _ (c.args.at + 2) _ _ (rw c.in-Ok-Some.field-0-is at c.in-Ok-Some.ensures.read) c.octets_of.ensures c.of_wire.ensures

pub of_wire-requires-in-Ok : goal.of_wire-requires-in-Ok
of_wire-requires-in-Ok c = out_form _ _ _ c.in-Ok.end _ c.in-Ok.ensures.read c.as_slice.ensures.value

pub returns-in-Ok-clause-read : goal.returns-in-Ok-clause-read
returns-in-Ok-clause-read c = out_read _ _ _ c.in-Ok.end _ _ c.in-Ok.ensures.read c.as_slice.ensures.value c.of_wire-in-Ok.ensures
