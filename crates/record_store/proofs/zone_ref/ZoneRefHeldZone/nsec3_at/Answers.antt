use Rattle.std.proofs.Common.{◌≡◌, subst}
use Rattle.std.specs.Option.{option_map}
use Rattle.cache_meaning.specs.Lent.{parameters_by}
use Rattle.cache_meaning.specs.Zones.{HeldZone, nsec3_at}
use Rattle.held_laws.specs.KeyOrder.{in_key_order}
use Rattle.record_store.proofs.LookUpLemmas.{nsec3_in_zone}
use Rattle.record_store.proofs.zone_ref.ZoneRefHeldZone.nsec3_at.Goals as goal

pub returns-clause-record : goal.returns-clause-record
returns-clause-record c =
    subst (λ (z : HeldZone). option_map (λ found. found.0.now) c.nsec3_at.result ≡ nsec3_at z.held z.apex (parameters_by c.args.salt.now c.args.iterations) c.args.hash.now) c.self.view_is
    (nsec3_in_zone (in_key_order c.self.inside.holding.now) c.self.inside.zone.now c.self.invariant (parameters_by c.args.salt.now c.args.iterations) c.args.hash.now _ c.nsec3_at.ensures.record)
