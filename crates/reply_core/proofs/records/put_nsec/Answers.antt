use Rattle.std.proofs.Common.{refl}
use Rattle.reply_core.proofs.RecordLemmas.{has_put-more}
use Rattle.reply_core.proofs.records.put_nsec.Goals as goal

pub returns : goal.returns
returns g c =
    rw (← c.image.ensures, ← c.signatures.ensures, ← c.owner.ensures)
    (has_put-more _ _ _ _ _ _ _ _ c.put_record.ensures c.put_list.ensures refl)
