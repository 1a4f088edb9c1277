use Rattle.std.proofs.Common.{◌∙◌}
use Rattle.std.specs.Arc.{arc_value}
use Rattle.record_store.proofs.ZoneLemmas.{zones_with, zones_with_order}
use Rattle.record_store.proofs.zones.with_zone.Goals as goal

pub returns-clause-zones : goal.returns-clause-zones
returns-clause-zones c = zones_with (arc_value c.args.zone) c.args.zones.now (arc_value c.in_ok-new.field-0) (c.in_ok-new.ensures.ok ∙ c.in_ok-with.ensures.made)

pub returns-clause-order : goal.returns-clause-order
returns-clause-order c = zones_with_order (arc_value c.args.zone) c.args.zones.now (arc_value c.in_ok-new.field-0) c.with.ensures.in_order (c.in_ok-new.ensures.ok ∙ c.in_ok-with.ensures.made)
