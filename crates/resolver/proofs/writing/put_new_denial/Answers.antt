use Rattle.std.proofs.Common.{List, ◌++◌, subst, sym}
use Rattle.std.specs.List.{flat_map}
use Rattle.denial_records.specs.declared.record.Record.{Record}
use Rattle.reply_core.specs.Reply.{wants_dnssec, proof_records}
use Rattle.reply_core.specs.Sections.{HasWrittenWithin}
use Rattle.resolver.specs.Lent.{denials_by}
use Rattle.resolver.proofs.WritingLemmas.{new_place}
use Rattle.resolver.proofs.writing.put_new_denial.Goals as goal

pub returns-then-not-is_among : goal.returns-then-not-is_among
returns-then-not-is_among g c limit question rcode ttl answers authorities was =
    subst (λ (denials : List Record). HasWrittenWithin limit question rcode ttl answers (authorities ++ flat_map (proof_records (wants_dnssec question)) denials) c.put_denial.new.self)
    (sym (new_place (denials_by c.args.earlier.now) c.args.place.now _ c.is_among.result c.in-Some.is c.is_among.ensures c.if-not-is_among.true))
    (c.put_denial.ensures limit question rcode ttl answers authorities was)
