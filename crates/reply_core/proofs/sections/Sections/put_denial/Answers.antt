use Rattle.std.proofs.Common.{refl}
use Rattle.std.specs.List.{flat_map}
use Rattle.reply_core.specs.Reply.{proof_records}
use Rattle.reply_core.specs.Shown.{denial_in}
use Rattle.reply_core.proofs.SectionsLemmas.{written-authorities}
use Rattle.reply_core.proofs.sections.Sections.put_denial.Goals as goal

pub returns : goal.returns
returns g c limit question rcode ttl answers authorities was =
    written-authorities limit question rcode ttl answers authorities (λ dnssec. flat_map (proof_records dnssec) (denial_in c.args.denial.now))
    c.wants_dnssec-dnssec.result _ _ _ _ (rw c.self.view_is was) c.wants_dnssec-dnssec.ensures c.put_denial-count.ensures refl
