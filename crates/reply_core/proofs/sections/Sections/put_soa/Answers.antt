use Rattle.std.proofs.Common.{refl}
use Rattle.std.specs.List.{flat_map}
use Rattle.std.specs.Option.{option_copied}
use Rattle.reply_core.specs.Kept.{owner_of, listed}
use Rattle.reply_core.specs.Reply.{set_records}
use Rattle.reply_core.proofs.SectionsLemmas.{written-authorities}
use Rattle.reply_core.proofs.sections.Sections.put_soa.Goals as goal

pub returns : goal.returns
returns g c limit question rcode ttl answers authorities was =
    written-authorities limit question rcode ttl answers authorities (λ dnssec. flat_map (λ set. set_records dnssec (owner_of set) set) (listed (option_copied c.args.soa)))
    c.wants_dnssec-dnssec.result _ _ _ _ (rw c.self.view_is was) c.wants_dnssec-dnssec.ensures c.put_soa-count.ensures refl
