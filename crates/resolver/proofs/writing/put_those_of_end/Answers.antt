use Rattle.std.proofs.Common.{◌++◌, sym, subst}
use Rattle.std.specs.List.{flat_map}
use Rattle.reply_core.specs.Reply.{wants_dnssec, proof_records}
use Rattle.reply_core.specs.Sections.{HasWrittenWithin}
use Rattle.resolver.specs.WalkReply.{end_denials, are_new}
use Rattle.resolver.specs.Lent.{end_by, denials_by}
use Rattle.resolver.specs.declared.walk.End.{End}
use Rattle.resolver.proofs.writing.put_those_of_end.Goals as goal

pub returns-in-Proved : goal.returns-in-Proved
returns-in-Proved g c = λ name limit question rcode ttl answers authorities was.
    subst (λ (end : End). HasWrittenWithin limit question rcode ttl answers (authorities ++ flat_map (proof_records (wants_dnssec question)) (are_new (denials_by c.args.earlier.now) (end_denials (end_by name end)))) c.put_new_denials.new.sections)
    (sym c.in-Proved.is) (c.put_new_denials.ensures limit question rcode ttl answers authorities was)
