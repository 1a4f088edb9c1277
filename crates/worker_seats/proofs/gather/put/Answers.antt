use Rattle.std.proofs.Common.{refl}
use Rattle.worker_seats.proofs.GatherLemmas.{ok_to, err_to, put_after, part_after}
use Rattle.worker_seats.proofs.gather.put.Goals as goal

pub returns-in-Ok-clause-put : goal.returns-in-Ok-clause-put
returns-in-Ok-clause-put g c = ok_to c.put_first.result (put_after _ _ _ _ _ _ _ (c.if-keep.ensures.same refl) c.in-Ok.ensures.written) c.put_first.ensures.put

pub returns-in-Ok-clause-part : goal.returns-in-Ok-clause-part
returns-in-Ok-clause-part g c = err_to c.put_first.result (part_after _ _ _ _ _ _ (c.if-keep.ensures.same refl) c.in-Ok.ensures.written) c.put_first.ensures.part
