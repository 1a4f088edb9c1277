use Rattle.std.proofs.Common.{refl}
use Rattle.reply_core.specs.Reply.{proof_records}
use Rattle.reply_core.proofs.RecordLemmas.{has_put-proof}
use Rattle.reply_core.proofs.reply.put_authorities.Goals as goal

pub returns : goal.returns
returns g c =
    rw (← c.wants_dnssec-dnssec.ensures)
    (has_put-proof c.args.ttl (proof_records c.wants_dnssec-dnssec.result) _ _ _ _ _ _ _ _ _ _ _ _ _ _ _ _
    c.put_soa.ensures c.put_denial.ensures c.put_denial-2.ensures c.put_denial-3.ensures refl refl refl)
