use Rattle.std.proofs.Common.{refl, sym, ◌∙◌, ap, subst, option_map}
use Rattle.std.specs.Arc.{arc_value}
use Rattle.cache_meaning.specs.Held.{Held, zone_of}
use Rattle.held_laws.specs.HeldLaws.{NoneDisplaces}
use Rattle.record_store.specs.Ranks.{set_cmp}
use Rattle.ordered_list.specs.Order.{IsRank, entry_at, with_entry}
use Rattle.record_store.specs.Dropping.{AreSets}
use Rattle.record_store.proofs.SetLemmas.{set_made, set_already}
use Rattle.record_store.proofs.holding.Holding.put_set.Goals as goal

pub without_set-requires-clause-sets : goal.without_set-requires-clause-sets
without_set-requires-clause-sets c = subst (AreSets c.self.inside.goings) (sym c.deref-4.ensures) c.self.invariant.sets_are

pub without_set-requires-clause-old : goal.without_set-requires-clause-old
without_set-requires-clause-old c =
    let rank = subst (λ sets. IsRank set_cmp c.deref-2.result.now sets c.rank-rank.result.from c.rank-rank.result.to) (c.list.ensures ∙ (c.deref.ensures ∙ (sym c.deref-3.ensures ∙ sym c.list-2.ensures))) c.rank-rank.ensures.rank in
    c.in_ok-old.ensures c.deref-2.result.now rank
    ∙ (λ i. entry_at set_cmp ((c.deref-2.ensures ∙ sym c.deref-5.ensures) i) ((c.list-2.ensures ∙ (c.deref-3.ensures ∙ sym c.deref-4.ensures)) i))

pub invariant_of-result : goal.invariant_of-result
invariant_of-result c =
    let sets = c.in_ok-sets.ensures.ok ∙ c.in_ok-with_at.ensures ∙ ap (λ r. with_entry set_cmp r c.deref-7.result.now) c.in_ok-try_clone.ensures ∙ ap (with_entry set_cmp (arc_value c.args.new)) c.deref-7.ensures in
    (set_made c.self.inside.goings (arc_value c.self.inside.sets) (arc_value c.self.inside.zones) c.self.invariant (arc_value c.args.new) c.requires c.args.self c.self.view_is
    c.in_ok-goings.goings c.deref-5.result.now c.deref-5.ensures c.in_ok-goings.ensures
    c.in_ok-goings-2.goings c.in_ok-goings.goings refl c.in_ok-goings-2.ensures.records c.in_ok-goings-2.ensures.apart
    (arc_value c.in_ok-sets.sets) sets
    (arc_value c.in_ok-zones.zones) (arc_value c.self.inside.zones) c.zone_of.result refl (c.zone_of.ensures ∙ ap zone_of c.deref-6.ensures) c.in_ok-zones.ensures.zones c.in_ok-zones.ensures.order c.in_ok-zones.ensures.was_ordered).0

pub returns : goal.returns
returns c =
    let sets = c.in_ok-sets.ensures.ok ∙ c.in_ok-with_at.ensures ∙ ap (λ r. with_entry set_cmp r c.deref-7.result.now) c.in_ok-try_clone.ensures ∙ ap (with_entry set_cmp (arc_value c.args.new)) c.deref-7.ensures in
    record {
      order = (set_made c.self.inside.goings (arc_value c.self.inside.sets) (arc_value c.self.inside.zones) c.self.invariant (arc_value c.args.new) c.requires c.args.self c.self.view_is
          c.in_ok-goings.goings c.deref-5.result.now c.deref-5.ensures c.in_ok-goings.ensures
          c.in_ok-goings-2.goings c.in_ok-goings.goings refl c.in_ok-goings-2.ensures.records c.in_ok-goings-2.ensures.apart
          (arc_value c.in_ok-sets.sets) sets
          (arc_value c.in_ok-zones.zones) (arc_value c.self.inside.zones) c.zone_of.result refl (c.zone_of.ensures ∙ ap zone_of c.deref-6.ensures) c.in_ok-zones.ensures.zones c.in_ok-zones.ensures.order c.in_ok-zones.ensures.was_ordered).1;
      apart = c.in_ok-goings-2.ensures.apart;
    }

pub returns-then-same_record : goal.returns-then-same_record
returns-then-same_record c =
    let rank = subst (λ sets. IsRank set_cmp c.deref-2.result.now sets c.rank-rank.result.from c.rank-rank.result.to) (c.list.ensures ∙ (c.deref.ensures ∙ (sym c.deref-3.ensures ∙ sym c.list-2.ensures))) c.rank-rank.ensures.rank in
    let found = c.in_ok-old.ensures c.deref-2.result.now rank ∙ ap (entry_at set_cmp c.deref-2.result.now) (c.list-2.ensures ∙ (c.deref-3.ensures ∙ sym c.deref.ensures)) in
    record {
      order = set_already c.self.inside.goings (arc_value c.self.inside.sets) (arc_value c.self.inside.zones) c.self.invariant (arc_value c.args.new) c.requires c.args.self c.self.view_is
          c.deref.result.now c.deref.ensures c.deref-2.result.now c.deref-2.ensures (arc_value c.in-Some.old)
          (sym found ∙ ap (option_map (λ o. arc_value o)) c.in-Some.is)
          (sym c.deref-in-Some.ensures ∙ c.same_record.ensures.yes c.if-same_record.true ∙ c.deref-in-Some-2.ensures);
      apart = subst (λ (h : Held). NoneDisplaces h.records) c.self.view_is c.self.invariant.apart;
    }
