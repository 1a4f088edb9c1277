use Rattle.std.proofs.Common.{◌≡◌, ◌∙◌, nat_lt, Option, Bor, ap, subst}
use Rattle.std.specs.Prelude.{IfSome}
use Rattle.std.specs.Option.{option_copied}
use Rattle.dname.specs.declared.types.TheConstants.{CNAME_TYPE}
use Rattle.denial_records.specs.declared.set_rec.SetRec.{SetRec}
use Rattle.cache_meaning.specs.Evidence.{that}
use Rattle.cache_meaning.specs.Zones.{set_at}
use Rattle.resolver.proofs.search.usable_alias.Goals as goal

pub returns-in-Some : goal.returns-in-Some
returns-in-Some c =
    let zone = c.args.zone.now in
    let is = subst (λ (told : Option (Option (Bor SetRec))). IfSome told (λ alias. option_copied alias ≡ set_at zone.held zone.apex c.args.owner.now CNAME_TYPE)) c.in-Some.is c.requires in
    c.that_is_usable.ensures ∙ ap (that (λ (set : SetRec). nat_lt c.args.now set.expiry)) is
