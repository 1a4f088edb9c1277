use Rattle.std.proofs.Common.{refl}
use Rattle.reply_core.specs.Reply.{header_octets}
use Rattle.reply_core.proofs.SectionsLemmas.{written-none}
use Rattle.reply_core.proofs.sections.Sections.begin_within.Goals as goal

pub returns : goal.returns
returns g c =
    written-none c.args.limit c.args.question.now c.args.rcode c.args.ttl c.put_header.new.draft c.put_question.new.draft
    (header_octets c.args.question.now.id c.coded_flags-flags.result 1 0 0 c.opt_count-opts.result)
    (rw (c.put_header.ensures, c.new-draft.ensures) refl)
    c.put_question.ensures.value
    (rw (c.coded_flags-flags.ensures, c.opt_count-opts.ensures) refl)
