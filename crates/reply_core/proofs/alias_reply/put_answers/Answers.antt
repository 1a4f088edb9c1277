use Rattle.std.proofs.Common.{refl}
use Rattle.reply_core.proofs.RecordLemmas.{has_put-both}
use Rattle.reply_core.proofs.alias_reply.put_answers.Goals as goal

pub returns : goal.returns
returns g c =
    rw (← c.wants_dnssec-dnssec.ensures) (has_put-both c.args.ttl _ _ _ _ _ _ _ _ c.put_answer.ensures c.put_answer-2.ensures refl)
