use Rattle.reply_core.proofs.RecordLemmas.{has_put-none}
use Rattle.reply_core.proofs.records.put_soa.Goals as goal

pub returns-in-None : goal.returns-in-None
returns-in-None g c = rw c.in-None.is (has_put-none c.args.ttl c.args.draft.now)
