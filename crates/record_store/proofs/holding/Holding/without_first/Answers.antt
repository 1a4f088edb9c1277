use Rattle.std.proofs.Common.{◌≡◌, drop, refl, sym, ◌∙◌, ap, subst}
use Rattle.std.specs.Arc.{arc_value}
use Rattle.cache_meaning.specs.Held.{Held}
use Rattle.record_store.specs.Dropping.{AreSets}
use Rattle.record_store.proofs.DroppingLemmas.{first_gone}
use Rattle.record_store.proofs.holding.Holding.without_first.Goals as goal

pub sets_without-requires-clause-left : goal.sets_without-requires-clause-left
sets_without-requires-clause-left c =
    let xs = c.args.self.records in
    let goings = c.self.inside.goings in
    let whole : goings ≡ xs = ap (λ (h : Held). h.records) c.self.view_is in
    first_gone xs goings goings (drop 1 xs) (arc_value c.first.result.now) c.deref.result.now whole c.first.ensures.in_order c.requires whole c.first.ensures.value
    (c.deref.ensures ∙ c.in_ok-first.ensures) refl

pub zones_without-requires-clause-left : goal.zones_without-requires-clause-left
zones_without-requires-clause-left c =
    let xs = c.args.self.records in
    let goings = c.self.inside.goings in
    let whole : goings ≡ xs = ap (λ (h : Held). h.records) c.self.view_is in
    first_gone xs goings goings (drop 1 xs) (arc_value c.first.result.now) c.deref-3.result.now whole c.first.ensures.in_order c.requires whole c.first.ensures.value
    (c.deref-3.ensures ∙ c.in_ok-first.ensures) refl

pub zones_without-requires-clause-sets : goal.zones_without-requires-clause-sets
zones_without-requires-clause-sets c = subst (AreSets (drop 1 c.args.self.records)) (sym c.deref-2.ensures) c.in_ok-sets.ensures
