use Rattle.std.proofs.Common.{[], ◌∷◌, ◌++◌, ◌∙◌, ap, subst, append_assoc}
use Rattle.reply_core.specs.Reply.{wants_dnssec}
use Rattle.reply_core.specs.Sections.{HasWrittenWithin, alias_record}
use Rattle.resolver.specs.WalkReply.{dname_records}
use Rattle.resolver.specs.Lent.{dnames_by}
use Rattle.resolver.proofs.writing.put_made.Goals as goal

pub returns : goal.returns
returns g c = λ limit question rcode ttl answers was.
    let set = dname_records (wants_dnssec question) (dnames_by c.args.earlier.now) c.args.set.now in
    subst (λ them. HasWrittenWithin limit question rcode ttl them [] c.put_alias.new.self)
    (append_assoc answers set (alias_record c.args.name.now c.made_name.result ∷ []) ∙ ap (λ made. answers ++ (set ++ alias_record c.args.name.now made ∷ [])) c.made_name.ensures)
    (c.put_alias.ensures limit question rcode ttl _ (c.put_dname.ensures limit question rcode ttl answers was))
