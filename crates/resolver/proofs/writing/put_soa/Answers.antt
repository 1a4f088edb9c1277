use Rattle.std.proofs.Common.{[], sym, subst}
use Rattle.std.specs.List.{flat_map}
use Rattle.reply_core.specs.Kept.{owner_of, listed}
use Rattle.reply_core.specs.Reply.{wants_dnssec, set_records}
use Rattle.reply_core.specs.Sections.{HasWrittenWithin}
use Rattle.resolver.specs.WalkReply.{end_soa}
use Rattle.resolver.specs.Lent.{end_by}
use Rattle.resolver.specs.declared.walk.End.{End}
use Rattle.resolver.proofs.writing.put_soa.Goals as goal

pub returns-in-Proved : goal.returns-in-Proved
returns-in-Proved g c = λ name limit question rcode ttl answers was.
    subst (λ (end : End). HasWrittenWithin limit question rcode ttl answers (flat_map (λ soa. set_records (wants_dnssec question) (owner_of soa) soa) (listed (end_soa (end_by name end)))) c.put_soa.new.self)
    (sym c.in-Proved.is) (c.put_soa.ensures limit question rcode ttl answers [] was)
