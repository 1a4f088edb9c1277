use Rattle.std.proofs.Common.{◌≡◌, refl, arith}
use Rattle.reply_core.specs.Draft.{put, blank}
use Rattle.reply_core.specs.Error.{plain_octets}
use Rattle.reply_core.proofs.DraftLemmas.{blank-has}
use Rattle.reply_core.proofs.error.write_plain.Goals as goal

pub returns-clause-value : goal.returns-clause-value
returns-clause-value c =
    let written : c.put_bare.new.draft ≡ put (blank 1232) (plain_octets c.args.question.now c.args.rcode) = rw (c.put_bare.ensures.value, c.restart.ensures, c.flags_of-flags.ensures, c.head_of.ensures) refl in
    blank-has 1232 (plain_octets c.args.question.now c.args.rcode) c.put_bare.new.draft written (omega (arith, c.put_bare.ensures.small))

pub returns-clause-small : goal.returns-clause-small
returns-clause-small c = rw (returns-clause-value c) c.put_bare.ensures.small
