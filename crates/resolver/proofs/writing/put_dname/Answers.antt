use Rattle.std.proofs.Common.{[], ◌++◌, sym, ◌∙◌, subst, append-nil}
use Rattle.reply_core.specs.Reply.{wants_dnssec}
use Rattle.reply_core.specs.Sections.{HasWrittenWithin}
use Rattle.resolver.specs.Lent.{dnames_by}
use Rattle.resolver.proofs.WritingLemmas.{dname_new, dname_old}
use Rattle.resolver.proofs.writing.put_dname.Goals as goal

pub returns-then-not-go_by : goal.returns-then-not-go_by
returns-then-not-go_by g c = λ limit question rcode ttl answers was.
    subst (λ them. HasWrittenWithin limit question rcode ttl (answers ++ them) [] c.put_answer.new.self)
    (dname_new (wants_dnssec question) (dnames_by c.args.earlier.now) c.name.result c.args.set.now (c.name.ensures ∙ c.owner.ensures) (sym c.go_by.ensures ∙ c.if-not-go_by.true))
    (c.put_answer.ensures limit question rcode ttl answers was)

pub returns-else-not-go_by : goal.returns-else-not-go_by
returns-else-not-go_by g c = λ limit question rcode ttl answers was.
    subst (λ them. HasWrittenWithin limit question rcode ttl (answers ++ them) [] c.args.sections.now)
    (sym (dname_old (wants_dnssec question) (dnames_by c.args.earlier.now) c.args.set.now (sym c.go_by.ensures ∙ c.if-not-go_by.false)))
    (subst (λ them. HasWrittenWithin limit question rcode ttl them [] c.args.sections.now) (sym (append-nil answers)) was)
