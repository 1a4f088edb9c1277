use Rattle.std.proofs.Common.{refl}
use Rattle.reply_core.proofs.ReplyLemmas.{counts-set}
use Rattle.reply_core.proofs.header.set_counts.Goals as goal

pub returns : goal.returns
returns g c limit id flags questions additionals rest =
    counts-set limit id flags questions additionals c.args.answers c.args.authorities _ _ rest c.args.draft.now c.set-4.new.self
    c.to_be_bytes.ensures c.to_be_bytes-2.ensures
    (rw (c.set-4.ensures, c.set-3.ensures, c.set-2.ensures, c.set.ensures) refl)
