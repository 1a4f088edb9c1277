use Rattle.std.proofs.Common.{◌≡◌, length}
use Rattle.byteorder.specs.Endian.{big_bytes}
use Rattle.reply_core.proofs.DraftLemmas.{put-put}
use Rattle.reply_core.proofs.CountLemmas.{big_bytes-low16}
use Rattle.reply_core.proofs.records.put_rest.Goals as goal

pub returns : goal.returns
returns g c =
    let size : big_bytes 2 c.low16.result ≡ big_bytes 2 (length c.args.rdata.now) = rw c.low16.ensures (big_bytes-low16 (length c.args.rdata.now)) in
    rw (c.put-2.ensures, c.put.ensures, c.fields.ensures, size) (put-put c.args.draft.now _ _)
