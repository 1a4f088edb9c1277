use Rattle.std.proofs.Common.{◌∙◌, ap}
use Rattle.std.proofs.lemmas.Option.{IfSome_then}
use Rattle.dname.specs.declared.types.TheConstants.{CNAME_TYPE}
use Rattle.cache_meaning.specs.Zones.{HeldZone, set_at}
use Rattle.held_laws.specs.KeyOrder.{in_key_order}
use Rattle.record_store.proofs.zone_ref.ZoneRef.set_and_alias_at.Goals as goal

pub returns-clause-alias : goal.returns-clause-alias
returns-clause-alias c =
    IfSome_then c.set_and_alias_at.result.alias c.set_and_alias_at.ensures.alias (λ alias is.
    is
    ∙ ap (λ apex. set_at (in_key_order c.self.inside.holding.now) apex c.args.owner.now CNAME_TYPE) c.apex.ensures.apex
    ∙ ap (λ (zone : HeldZone). set_at zone.held zone.apex c.args.owner.now CNAME_TYPE) c.self.view_is)
