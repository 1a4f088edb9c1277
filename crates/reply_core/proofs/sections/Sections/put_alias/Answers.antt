use Rattle.std.proofs.Common.{refl, [], ◌∷◌}
use Rattle.reply_core.specs.Sections.{alias_record}
use Rattle.reply_core.proofs.RecordLemmas.{has_put-one}
use Rattle.reply_core.proofs.SectionsLemmas.{written-answers}
use Rattle.reply_core.proofs.sections.Sections.put_alias.Goals as goal

pub returns : goal.returns
returns g c limit question rcode ttl answers was =
    written-answers limit question rcode ttl answers (λ dnssec. alias_record c.args.owner.now c.args.target.now ∷ [])
    _ _ _ _ _ (rw c.self.view_is was) refl (has_put-one _ _ _ _ c.put_alias.ensures) refl
