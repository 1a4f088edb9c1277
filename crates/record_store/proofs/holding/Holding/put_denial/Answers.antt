use Rattle.std.proofs.Common.{◌≡◌, false, refl, sym, subst}
use Rattle.std.specs.Arc.{arc_value}
use Rattle.denial_records.specs.declared.record.Record.{Record}
use Rattle.cache_meaning.specs.Held.{Held, displaces}
use Rattle.zone_chains.specs.Zone.{OneZone, IsOneZone}
use Rattle.record_store.specs.Holding.{IsZoneOf}
use Rattle.record_store.proofs.DenialLemmas.{is_denial, denial_made}
use Rattle.record_store.proofs.holding.Holding.put_denial.Goals as goal

pub without_gone-requires-clause-zone : goal.without_gone-requires-clause-zone
without_gone-requires-clause-zone c =
    subst (λ (z : OneZone). IsZoneOf c.self.inside.goings z) (sym c.deref-3.ensures)
    (subst (λ (h : Held). IsZoneOf h.records (arc_value c.in_ok-zone.zone)) (sym c.self.view_is) c.in_ok-zone.ensures.its)

pub with-requires-2 : goal.with-requires-2
with-requires-2 c item has =
    let left = (c.in_ok-goings.ensures item).0 has in
    subst (λ (r : Record). displaces r item ≡ false) c.deref-4.ensures left.1

pub invariant_of-result : goal.invariant_of-result
invariant_of-result c =
    (denial_made c.self.inside.goings (arc_value c.self.inside.sets) (arc_value c.self.inside.zones) c.self.invariant (arc_value c.args.new) (is_denial (arc_value c.args.new) c.requires) c.args.self c.self.view_is
    (arc_value c.in_ok-zone.zone) c.deref.result.now c.deref.ensures c.in_ok-zone.ensures
    c.in_ok-goings.goings c.deref-3.result.now c.deref-4.result.now c.deref-3.ensures c.deref-4.ensures c.in_ok-goings.ensures
    (arc_value c.in_ok-new.field-0) c.deref-2.result.now c.in_ok-made.made (arc_value c.in_ok-try_clone.field-0) c.deref-2.ensures c.in_ok-try_clone.ensures c.in_ok-new.ensures.ok (c.in_ok-made.ensures.apex, c.in_ok-made.ensures.chains, c.in_ok-made.ensures.records) c.in_ok-made.made (sym c.in_ok-new.ensures.ok) c.in_ok-made.ensures.whole
    c.in_ok-goings-2.goings c.in_ok-goings.goings refl c.in_ok-goings-2.ensures.records c.in_ok-goings-2.ensures.apart
    (arc_value c.self.inside.sets) refl
    (arc_value c.in_ok-zones.zones) c.deref-5.result.now c.deref-5.ensures c.in_ok-zones.ensures.zones c.in_ok-zones.ensures.order c.in_ok-zones.ensures.was_ordered).0

pub without_gone-requires-clause-whole : goal.without_gone-requires-clause-whole
without_gone-requires-clause-whole c = subst IsOneZone (sym c.deref-3.ensures) c.in_ok-zone.ensures.whole

pub returns : goal.returns
returns c = record {
  order =
      (denial_made c.self.inside.goings (arc_value c.self.inside.sets) (arc_value c.self.inside.zones) c.self.invariant (arc_value c.args.new) (is_denial (arc_value c.args.new) c.requires) c.args.self c.self.view_is
      (arc_value c.in_ok-zone.zone) c.deref.result.now c.deref.ensures c.in_ok-zone.ensures
      c.in_ok-goings.goings c.deref-3.result.now c.deref-4.result.now c.deref-3.ensures c.deref-4.ensures c.in_ok-goings.ensures
      (arc_value c.in_ok-new.field-0) c.deref-2.result.now c.in_ok-made.made (arc_value c.in_ok-try_clone.field-0) c.deref-2.ensures c.in_ok-try_clone.ensures c.in_ok-new.ensures.ok (c.in_ok-made.ensures.apex, c.in_ok-made.ensures.chains, c.in_ok-made.ensures.records) c.in_ok-made.made (sym c.in_ok-new.ensures.ok) c.in_ok-made.ensures.whole
      c.in_ok-goings-2.goings c.in_ok-goings.goings refl c.in_ok-goings-2.ensures.records c.in_ok-goings-2.ensures.apart
      (arc_value c.self.inside.sets) refl
      (arc_value c.in_ok-zones.zones) c.deref-5.result.now c.deref-5.ensures c.in_ok-zones.ensures.zones c.in_ok-zones.ensures.order c.in_ok-zones.ensures.was_ordered).1;
  apart = c.in_ok-goings-2.ensures.apart;
}
