use Rattle.std.proofs.Common.{subst, sym}
use Rattle.reply_core.specs.Count.{HasPut}
use Rattle.reply_core.specs.Shown.{denial_in}
use Rattle.reply_core.proofs.RecordLemmas.{has_put-none, no-proof}
use Rattle.reply_core.proofs.records.put_denial.Goals as goal

pub returns-then-not-dnssec : goal.returns-then-not-dnssec
returns-then-not-dnssec g c =
    rw c.if-not-dnssec.true
    (subst (HasPut c.args.ttl c.args.draft.now c.args.draft.now 0) (sym (no-proof (denial_in c.args.denial.now))) (has_put-none c.args.ttl c.args.draft.now))

pub returns-in-None : goal.returns-in-None
returns-in-None g c = rw c.in-None.is (has_put-none c.args.ttl c.args.draft.now)
