use Rattle.std.proofs.Common.{◌≡◌, ◌++◌, [], length, sym, ap, ◌∙◌, subst, arith}
use Rattle.std.proofs.lemmas.List.{map-id, length-append}
use Rattle.std.proofs.lemmas.Iterator.Adapters.{YieldsList-from_vec}
use Rattle.std.proofs.lemmas.Iterator.Consumers.{YieldsList-turn, YieldsList-end}
use Rattle.intake.specs.Pile.{piles_in}
use Rattle.intake.proofs.BringLemmas.{HasStored, has_none, stored_some, stored_none, skipped_few, brings_all, piles_few}
use Rattle.intake.proofs.intake.taken_of.Goals as goal

pub loop-pile-init : goal.loop-pile-init
loop-pile-init c = subst (λ records. HasStored c.args.now [] records 0) (sym c.empty-records.ensures) (has_none c.args.now)

pub loop-pile-preserved-in-Continue-branch-4 : goal.loop-pile-preserved-in-Continue-branch-4
loop-pile-preserved-in-Continue-branch-4 c =
    stored_some c.args.now c.loop-pile.yielded c.loop-pile.records c.push.new.self c.loop-pile.skipped c.in-Some.pile c.in_ok-record.field-0 c.in-Some-2.record c.loop-pile.invariant
    c.in_ok-record.ensures c.in-Some-2.is c.in_ok-push-in-Some-2.ensures.ok

pub overflow_add-skipped : goal.overflow_add-skipped
overflow_add-skipped c =
    let rrs = c.args.message.answer ++ c.args.message.authority in
    let all : c.into_iter-pile-iterator.result.rest.items ≡ piles_in c.args.now rrs = c.into_iter-pile-iterator.ensures.into_iter_gives.0 ∙ c.in_ok-piles.ensures in
    let turn = YieldsList-turn (YieldsList-from_vec {s = c.into_iter-pile-iterator.result} (piles_in c.args.now rrs) all (omega (arith, ap length all))) c.loop-pile.yielded c.loop-pile.pile-iterator c.loop-pile.yielded_by c.next.result c.next.new.self c.in-Some.pile c.in-Some.is c.next.ensures.steps in
    let few = skipped_few c.args.now c.loop-pile.yielded c.loop-pile.records c.loop-pile.skipped c.loop-pile.invariant in
    let most = piles_few c.args.now rrs in
    let both = length-append c.args.message.answer c.args.message.authority in
    omega (arith, turn.0, few, most, both, c.requires.few)

pub loop-pile-preserved : goal.loop-pile-preserved
loop-pile-preserved c = stored_none c.args.now c.loop-pile.yielded c.loop-pile.records c.loop-pile.skipped c.in-Some.pile c.in_ok-record.field-0 c.loop-pile.invariant c.in_ok-record.ensures c.in-None-2.is

pub returns : goal.returns
returns c =
    let rrs = c.args.message.answer ++ c.args.message.authority in
    let all : c.into_iter-pile-iterator.result.rest.items ≡ piles_in c.args.now rrs = c.into_iter-pile-iterator.ensures.into_iter_gives.0 ∙ c.in_ok-piles.ensures in
    let end = YieldsList-end (YieldsList-from_vec {s = c.into_iter-pile-iterator.result} (piles_in c.args.now rrs) all (omega (arith, ap length all))) c.loop-pile.yielded c.loop-pile.pile-iterator c.loop-pile.yielded_by c.next.result c.next.new.self c.in-None.is c.next.ensures.steps in
    brings_all c.args.message c.args.now c.loop-pile.yielded c.loop-pile.records c.loop-pile.skipped (sym (map-id c.loop-pile.yielded) ∙ end.0) c.loop-pile.invariant
