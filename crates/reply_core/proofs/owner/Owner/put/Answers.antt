use Rattle.reply_core.proofs.DraftLemmas.{put-put}
use Rattle.reply_core.proofs.owner.Owner.put.Goals as goal

pub returns-in-Hashed : goal.returns-in-Hashed
returns-in-Hashed g c =
    rw (c.put-in-Hashed-2.ensures, c.put-in-Hashed.ensures, c.label_of.ensures, c.wire-in-Hashed.ensures.spelled, c.in-Hashed.is) (put-put c.args.draft.now _ _)
