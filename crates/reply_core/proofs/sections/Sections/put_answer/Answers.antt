use Rattle.std.proofs.Common.{refl}
use Rattle.std.specs.List.{flat_map}
use Rattle.std.specs.Option.{option_copied}
use Rattle.reply_core.specs.Kept.{listed}
use Rattle.reply_core.specs.Reply.{set_records}
use Rattle.reply_core.proofs.SectionsLemmas.{written-answers}
use Rattle.reply_core.proofs.sections.Sections.put_answer.Goals as goal

pub returns : goal.returns
returns g c limit question rcode ttl answers was =
    written-answers limit question rcode ttl answers (λ dnssec. flat_map (set_records dnssec c.args.owner.now) (listed (option_copied c.args.set)))
    c.wants_dnssec-dnssec.result _ _ _ _ (rw c.self.view_is was) c.wants_dnssec-dnssec.ensures c.put_answer-count.ensures refl
