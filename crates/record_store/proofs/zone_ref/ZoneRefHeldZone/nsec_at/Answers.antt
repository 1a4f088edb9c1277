use Rattle.std.proofs.Common.{◌≡◌, subst}
use Rattle.std.specs.Option.{option_map}
use Rattle.cache_meaning.specs.Zones.{HeldZone, nsec_at}
use Rattle.held_laws.specs.KeyOrder.{in_key_order}
use Rattle.record_store.proofs.LookUpLemmas.{nsec_in_zone}
use Rattle.record_store.proofs.zone_ref.ZoneRefHeldZone.nsec_at.Goals as goal

pub returns-clause-record : goal.returns-clause-record
returns-clause-record c =
    subst (λ (z : HeldZone). option_map (λ found. found.0.now) c.nsec_at.result ≡ nsec_at z.held z.apex c.args.name.now) c.self.view_is
    (nsec_in_zone (in_key_order c.self.inside.holding.now) c.self.inside.zone.now c.self.invariant c.args.name.now _ c.nsec_at.ensures.record)
