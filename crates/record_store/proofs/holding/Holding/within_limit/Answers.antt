use Rattle.std.proofs.Common.{◌≡◌, ◌-◌, List, length, ap, subst, arith}
use Rattle.std.specs.Arc.{arc_value}
use Rattle.std.proofs.lemmas.List.{length-drop}
use Rattle.cache_meaning.specs.Held.{Held, most_records}
use Rattle.held_laws.specs.HeldLaws.{NoneDisplaces, EachChainHasARecord}
use Rattle.ordered_list.specs.Order.{IsInOrder}
use Rattle.denial_records.specs.declared.record.Record.{Record}
use Rattle.record_store.specs.Ranks.{going_cmp}
use Rattle.record_store.proofs.DroppingLemmas.{chains_have}
use Rattle.record_store.proofs.PhaseLemmas.{limit_ends}
use Rattle.record_store.proofs.RestLemmas.{rest_begins, rest_goes_on, rest_apart}
use Rattle.record_store.proofs.holding.Holding.within_limit.Goals as goal

pub loop-init : goal.loop-init
loop-init c = rest_begins c.args.self (subst EachChainHasARecord c.self.view_is (chains_have c.self.inside.goings (arc_value c.self.inside.sets) (arc_value c.self.inside.zones) c.self.invariant))

pub without_first-requires : goal.without_first-requires
without_first-requires c =
    let whole : c.self.inside.goings ≡ c.args.self.records = ap (λ (h : Held). h.records) c.self.view_is in
    omega (arith, ap length c.loop.invariant.records, length-drop c.loop.counter c.args.self.records, c.len.ensures.value, ap length whole)

pub loop-preserved : goal.loop-preserved
loop-preserved c = rest_goes_on c.args.self c.loop.counter c.loop.holding c.in_ok-holding.holding c.loop.invariant c.in_ok-holding.ensures.records c.in_ok-holding.ensures.chains

pub returns : goal.returns
returns c =
    let whole : c.self.inside.goings ≡ c.args.self.records = ap (λ (h : Held). h.records) c.self.view_is in
    let all : c.loop.counter ≡ length c.args.self.records - most_records = omega (arith, c.len.ensures.value, ap length whole) in
    record {
      order = limit_ends c.args.self c.loop.counter c.loop.holding c.loop.invariant (subst (λ (l : List Record). IsInOrder going_cmp l) whole c.len.ensures.in_order) all;
      apart = rest_apart c.args.self c.loop.counter c.loop.holding c.loop.invariant (subst (λ (h : Held). NoneDisplaces h.records) c.self.view_is c.self.invariant.apart);
    }
