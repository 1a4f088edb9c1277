use Rattle.std.proofs.Common.{refl}
use Rattle.reply_core.proofs.DraftLemmas.{put-nil}
use Rattle.reply_core.proofs.header.put_opt.Goals as goal

pub returns-in-None : goal.returns-in-None
returns-in-None g c = rw (c.in-None.is, put-nil) refl
