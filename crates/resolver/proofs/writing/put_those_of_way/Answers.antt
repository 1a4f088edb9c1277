use Rattle.std.proofs.Common.{◌++◌, sym, subst}
use Rattle.std.specs.List.{flat_map}
use Rattle.reply_core.specs.Reply.{wants_dnssec, proof_records}
use Rattle.reply_core.specs.Sections.{HasWrittenWithin}
use Rattle.resolver.specs.WalkReply.{are_new}
use Rattle.resolver.specs.Lent.{denials_in, denials_by}
use Rattle.resolver.specs.declared.walk.Way.{Way}
use Rattle.resolver.proofs.writing.put_those_of_way.Goals as goal

pub returns-in-Alias : goal.returns-in-Alias
returns-in-Alias g c = λ limit question rcode ttl answers authorities was.
    subst (λ (way : Way). HasWrittenWithin limit question rcode ttl answers (authorities ++ flat_map (proof_records (wants_dnssec question)) (are_new (denials_by c.args.earlier.now) (denials_in way))) c.put_new_denials.new.sections)
    (sym c.in-Alias.is) (c.put_new_denials.ensures limit question rcode ttl answers authorities was)
