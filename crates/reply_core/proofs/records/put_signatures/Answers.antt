use Rattle.reply_core.proofs.RecordLemmas.{has_put-none}
use Rattle.reply_core.proofs.records.put_signatures.Goals as goal

pub returns-else-dnssec : goal.returns-else-dnssec
returns-else-dnssec g c = rw c.if-dnssec.false (has_put-none c.args.ttl c.args.draft.now)
