use Rattle.std.proofs.Common.{length, ◌∙◌, ap, subst}
use Rattle.std.specs.Arc.{arc_value}
use Rattle.cache_meaning.specs.Held.{Held}
use Rattle.ordered_list.specs.Order.{IsInOrder}
use Rattle.record_store.specs.Gauges.{zone_count}
use Rattle.record_store.specs.Ranks.{apex_cmp}
use Rattle.record_store.proofs.GaugeLemmas.{zones_counted}
use Rattle.record_store.proofs.holding.Holding.zones.Goals as goal

pub returns : goal.returns
returns c =
    let parts = c.self.inside in
    let order = subst (IsInOrder apex_cmp) c.deref.ensures c.len.ensures.in_order in
    c.len.ensures.count ∙ ap length c.deref.ensures
    ∙ zones_counted parts.goings (arc_value parts.sets) (arc_value parts.zones) c.self.invariant order
    ∙ ap (λ (held : Held). zone_count held.records) c.self.view_is
