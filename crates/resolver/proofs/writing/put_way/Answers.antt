use Rattle.std.proofs.Common.{[], ◌++◌, sym, subst}
use Rattle.reply_core.specs.Reply.{wants_dnssec}
use Rattle.reply_core.specs.Sections.{HasWrittenWithin}
use Rattle.resolver.specs.WalkReply.{way_records}
use Rattle.resolver.specs.Lent.{next_by, way_by, dnames_by}
use Rattle.resolver.specs.declared.walk.Way.{Way}
use Rattle.resolver.proofs.writing.put_way.Goals as goal

pub returns-in-Alias : goal.returns-in-Alias
returns-in-Alias g c = λ limit question rcode ttl answers was.
    subst (λ (way : Way). HasWrittenWithin limit question rcode ttl (answers ++ way_records (wants_dnssec question) (dnames_by c.args.earlier.now) c.args.name.now (way_by way (next_by c.args.name.now way))) [] c.put_answer.new.self)
    (sym c.in-Alias.is) (c.put_answer.ensures limit question rcode ttl answers was)

pub returns-in-Dname : goal.returns-in-Dname
returns-in-Dname g c = λ limit question rcode ttl answers was.
    subst (λ (way : Way). HasWrittenWithin limit question rcode ttl (answers ++ way_records (wants_dnssec question) (dnames_by c.args.earlier.now) c.args.name.now (way_by way (next_by c.args.name.now way))) [] c.put_made.new.sections)
    (sym c.in-Dname.is) (c.put_made.ensures limit question rcode ttl answers was)
