use Rattle.std.proofs.Common.{◌∙◌}
use Rattle.std.specs.Arc.{arc_value}
use Rattle.record_store.proofs.ZoneLemmas.{zones_without, zones_without_order}
use Rattle.record_store.proofs.zones.without_zone.Goals as goal

pub returns-clause-zones : goal.returns-clause-zones
returns-clause-zones c = zones_without c.args.zone.now c.args.zones.now (arc_value c.in_ok-new.field-0) (c.in_ok-new.ensures.ok ∙ c.in_ok-without.ensures.made)

pub returns-clause-order : goal.returns-clause-order
returns-clause-order c = zones_without_order c.args.zone.now c.args.zones.now (arc_value c.in_ok-new.field-0) c.without.ensures.in_order (c.in_ok-new.ensures.ok ∙ c.in_ok-without.ensures.made)
