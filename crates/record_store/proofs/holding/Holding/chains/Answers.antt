use Rattle.std.proofs.Common.{length, ◌∙◌, ap, subst, arith}
use Rattle.std.specs.Arc.{arc_value}
use Rattle.cache_meaning.specs.Held.{Held}
use Rattle.ordered_list.specs.Order.{IsInOrder}
use Rattle.zone_chains.specs.Zone.{OneZone}
use Rattle.record_store.specs.Ranks.{apex_cmp}
use Rattle.record_store.proofs.GaugeLemmas.{chains_within, one_more_fits}
use Rattle.record_store.proofs.holding.Holding.chains.Goals as goal

pub overflow_add-chains : goal.overflow_add-chains
overflow_add-chains c =
    let parts = c.self.inside in
    let order = subst (IsInOrder apex_cmp) c.deref.ensures c.iter-zone-items.ensures.in_order in
    let within = chains_within parts.goings (arc_value parts.sets) (arc_value parts.zones) c.self.invariant order in
    let total = ap (λ (held : Held). length held.chains) c.self.view_is in
    let its = c.chains_in-chains.ensures ∙ ap (λ (zone : OneZone). length zone.chains) c.deref-in-loop-zone.ensures in
    let fits = one_more_fits (arc_value c.in-Some.zone.now) c.next.new.self c.loop-zone.zone-iterator c.loop-zone.chains _ c.in-Some.ensures.steps c.loop-zone.invariant in
    omega (arith, within, total, its, fits, c.len-records.ensures.value, c.len-records.type_inv)
