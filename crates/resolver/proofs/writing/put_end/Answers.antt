use Rattle.std.proofs.Common.{[], ◌++◌, sym, subst}
use Rattle.reply_core.specs.Reply.{wants_dnssec}
use Rattle.reply_core.specs.Sections.{HasWrittenWithin}
use Rattle.resolver.specs.WalkReply.{end_records}
use Rattle.resolver.specs.Lent.{end_by, dnames_by}
use Rattle.resolver.specs.declared.walk.End.{End}
use Rattle.resolver.proofs.writing.put_end.Goals as goal

pub returns-in-Proved : goal.returns-in-Proved
returns-in-Proved g c = λ limit question rcode ttl answers was.
    subst (λ (end : End). HasWrittenWithin limit question rcode ttl (answers ++ end_records (wants_dnssec question) (dnames_by c.args.earlier.now) c.args.name.now (end_by c.args.name.now end)) [] c.put_answer.new.self)
    (sym c.in-Proved.is) (c.put_answer.ensures limit question rcode ttl answers was)

pub returns-in-Made : goal.returns-in-Made
returns-in-Made g c = λ limit question rcode ttl answers was.
    subst (λ (end : End). HasWrittenWithin limit question rcode ttl (answers ++ end_records (wants_dnssec question) (dnames_by c.args.earlier.now) c.args.name.now (end_by c.args.name.now end)) [] c.put_made.new.sections)
    (sym c.in-Made.is) (c.put_made.ensures limit question rcode ttl answers was)

pub returns-in-TooLong : goal.returns-in-TooLong
returns-in-TooLong g c = λ limit question rcode ttl answers was.
    subst (λ (end : End). HasWrittenWithin limit question rcode ttl (answers ++ end_records (wants_dnssec question) (dnames_by c.args.earlier.now) c.args.name.now (end_by c.args.name.now end)) [] c.put_dname.new.sections)
    (sym c.in-TooLong.is) (c.put_dname.ensures limit question rcode ttl answers was)
