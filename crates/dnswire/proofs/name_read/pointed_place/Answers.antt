use Rattle.std.proofs.Common.{Err, ap}
use Rattle.dnswire.proofs.ExpansionLemmas.{behind_out, behind_fails, pointer_within}
use Rattle.dnswire.proofs.name_read.pointed_place.Goals as goal

pub returns-in-Ok-clause-read : goal.returns-in-Ok-clause-read
returns-in-Ok-clause-read c =
    let points = rw c.in-Some-Pointer.field-0-is at c.in-Some-Pointer.ensures.read in
    behind_out _ _ c.in-Some-Pointer.next _ points c.if-next-at.true c.in-Ok.ensures.read.0.octets

pub returns-in-Ok-clause-within : goal.returns-in-Ok-clause-within
returns-in-Ok-clause-within c =
    let points = rw c.in-Some-Pointer.field-0-is at c.in-Some-Pointer.ensures.read in
    (c.in-Ok.ensures.read.0.within, pointer_within _ _ c.in-Some-Pointer.next points)

pub returns-in-Err-Faulty-clause-faulty : goal.returns-in-Err-Faulty-clause-faulty
returns-in-Err-Faulty-clause-faulty c = λ _.
    let points = rw c.in-Some-Pointer.field-0-is at c.in-Some-Pointer.ensures.read in
    behind_fails _ _ c.in-Some-Pointer.next points (c.in-Err-Faulty.ensures.faulty (ap Err c.in-Err-Faulty.field-0-is))
