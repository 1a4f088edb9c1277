use Rattle.std.proofs.Common.{◌≡◌, ◌∙◌, refl, subst}
use Rattle.std.specs.Arc.{arc_value}
use Rattle.cache_meaning.specs.Held.{Held}
use Rattle.held_laws.specs.HeldLaws.{NoneDisplaces, EachChainHasARecord}
use Rattle.record_store.specs.Holding.{held_in}
use Rattle.record_store.proofs.DroppingLemmas.{chains_have}
use Rattle.record_store.proofs.PhaseLemmas.{expired_begins, expired_goes_on, expired_ends, expired_apart}
use Rattle.record_store.proofs.holding.Holding.usable.Goals as goal

pub loop-alloc-init : goal.loop-alloc-init
loop-alloc-init c =
    let each = subst EachChainHasARecord c.self.view_is (chains_have c.self.inside.goings (arc_value c.self.inside.sets) (arc_value c.self.inside.zones) c.self.invariant) in
    let same : held_in c.in_ok-try_clone.field-0 (arc_value c.in_ok-try_clone-3.field-0) ≡ c.args.self.now = (λ i. held_in (c.in_ok-try_clone.ensures i) (c.in_ok-try_clone-3.ensures i)) ∙ c.self.view_is in
    expired_begins c.args.now c.args.self.now _ same each

pub loop-alloc-preserved : goal.loop-alloc-preserved
loop-alloc-preserved c =
    expired_goes_on c.args.now c.args.self.now c.loop-alloc.holding c.loop-alloc.invariant c.in_ok-holding.holding (c.loop-alloc-test.ensures.first refl) c.in_ok-holding.ensures.records c.in_ok-holding.ensures.chains

pub returns-clause-made : goal.returns-clause-made
returns-clause-made c = record {
  order = expired_ends c.args.now c.args.self.now c.loop-alloc.holding c.loop-alloc.invariant (c.loop-alloc-test.ensures.none refl);
  apart = expired_apart c.args.now c.args.self.now c.loop-alloc.holding c.loop-alloc.invariant (subst (λ (h : Held). NoneDisplaces h.records) c.self.view_is c.self.invariant.apart);
}

pub returns-clause-apart : goal.returns-clause-apart
returns-clause-apart c = subst (λ (h : Held). NoneDisplaces h.records) c.self.view_is c.self.invariant.apart
