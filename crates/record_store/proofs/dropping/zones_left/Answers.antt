use Rattle.std.specs.Arc.{arc_value}
use Rattle.std.proofs.lemmas.Result.{IfOk-weaker}
use Rattle.record_store.specs.Dropping.{AreZonesLeft}
use Rattle.record_store.proofs.DroppingLemmas.{left_out}
use Rattle.record_store.proofs.dropping.zones_left.Goals as goal

pub returns-then-not-has_set_of-clause-made : goal.returns-then-not-has_set_of-clause-made
returns-then-not-has_set_of-clause-made c =
    IfOk-weaker c.without_zone.result _ (λ made. AreZonesLeft c.args.sets.now (arc_value c.args.zone) c.args.zones.now (arc_value made)) (λ made members.
    left_out c.args.sets.now (arc_value c.args.zone) c.args.zones.now (arc_value made) c.deref.result.now c.deref-then-is_empty.result.now c.deref-then-not-has_set_of.result.now c.apex.result.now c.deref.ensures c.deref-then-is_empty.ensures c.deref-then-not-has_set_of.ensures c.apex.ensures.apex
    (c.is_empty.ensures.0 c.if-is_empty.true) c.has_set_of.result c.has_set_of.ensures.no c.if-not-has_set_of.true members) c.without_zone.ensures.zones
