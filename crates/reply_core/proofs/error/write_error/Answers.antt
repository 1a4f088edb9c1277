use Rattle.std.proofs.Common.{◌≡◌, refl, arith}
use Rattle.reply_core.specs.Draft.{put, blank}
use Rattle.reply_core.specs.Error.{error_octets}
use Rattle.reply_core.proofs.DraftLemmas.{blank-has}
use Rattle.reply_core.proofs.error.write_error.Goals as goal

pub returns : goal.returns
returns c =
    let written : c.put_header.new.draft ≡ put (blank 1232) (error_octets c.args.head.now c.args.rcode) = rw (c.put_header.ensures, c.restart.ensures, c.flags_of-flags.ensures) refl in
    blank-has 1232 (error_octets c.args.head.now c.args.rcode) c.put_header.new.draft written (omega arith)
