use Rattle.std.proofs.Common.{refl}
use Rattle.reply_core.proofs.RecordLemmas.{has_put-both}
use Rattle.reply_core.proofs.records.put_set.Goals as goal

pub returns : goal.returns
returns g c =
    rw (← c.rtype.ensures, ← c.items.ensures, ← c.signatures.ensures)
    (has_put-both _ _ _ _ _ _ _ _ _ c.put_list-items.ensures c.put_signatures.ensures refl)
