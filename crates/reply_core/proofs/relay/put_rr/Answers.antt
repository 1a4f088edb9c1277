use Rattle.std.proofs.Common.{append_assoc}
use Rattle.reply_core.proofs.DraftLemmas.{put-put}
use Rattle.reply_core.proofs.relay.put_rr.Goals as goal

pub returns : goal.returns
returns g c = rw (c.put_rest.ensures, c.put.ensures, c.wire.ensures.spelled, c.name.ensures, c.as_slice.ensures) (simp (put-put, append_assoc))
