use Rattle.std.proofs.Common.{◌≡◌, List, drop, Contains, sym, ◌∙◌, ap, subst}
use Rattle.std.specs.Arc.{arc_value}
use Rattle.std.proofs.lemmas.Result.{IfOk-weaker}
use Rattle.denial_records.specs.declared.record.Record.{Record}
use Rattle.cache_meaning.specs.Held.{Held, chain_of}
use Rattle.record_store.specs.Ranks.{set_cmp}
use Rattle.ordered_list.specs.Order.{without_entry}
use Rattle.record_store.specs.Dropping.{AreSets}
use Rattle.record_store.specs.Holding.{AreBut}
use Rattle.record_store.proofs.DroppingLemmas.{sets_but, sets_stay}
use Rattle.record_store.proofs.holding.Holding.sets_without.Goals as goal

pub without-requires : goal.without-requires
without-requires c =
    let gone = c.args.gone.now in
    let whole : c.args.self.now.records ≡ c.self.inside.goings = sym (ap (λ (h : Held). h.records) c.self.view_is) in
    let there = subst (λ (l : List Record). Contains l gone) whole c.requires.there in
    subst (λ (l : List Record). Contains l gone) (sym c.deref.ensures) ((c.self.invariant.sets_are gone).1 (there, ap chain_of c.in-Set.is))

pub returns-in_ok-new-in-Set : goal.returns-in_ok-new-in-Set
returns-in_ok-new-in-Set c =
    let gone = c.args.gone.now in
    let whole : c.args.self.now.records ≡ c.self.inside.goings = sym (ap (λ (h : Held). h.records) c.self.view_is) in
    let there = subst (λ (l : List Record). Contains l gone) whole c.requires.there in
    let but = subst (λ (l : List Record). AreBut gone l (drop 1 c.args.self.now.records)) whole c.requires.left in
    sets_but gone c.self.inside.goings (arc_value c.self.inside.sets) (arc_value c.self.inside.zones) c.self.invariant (drop 1 c.args.self.now.records) but there (arc_value c.in_ok-new-in-Set.field-0)
    (c.in_ok-new-in-Set.ensures.ok ∙ (c.in_ok-without-in-Set.ensures ∙ ap (without_entry set_cmp gone) c.deref.ensures))

pub returns-in_default : goal.returns-in_default
returns-in_default c =
    let gone = c.args.gone.now in
    let whole : c.args.self.now.records ≡ c.self.inside.goings = sym (ap (λ (h : Held). h.records) c.self.view_is) in
    let but = subst (λ (l : List Record). AreBut gone l (drop 1 c.args.self.now.records)) whole c.requires.left in
    IfOk-weaker c.try_clone.result _ (λ sets. AreSets (drop 1 c.args.self.now.records) (arc_value sets)) (λ sets is.
    sets_stay gone c.self.inside.goings (arc_value c.self.inside.sets) (arc_value c.self.inside.zones) c.self.invariant (drop 1 c.args.self.now.records) but c.in_default.not-Set (arc_value sets) is) c.try_clone.ensures
