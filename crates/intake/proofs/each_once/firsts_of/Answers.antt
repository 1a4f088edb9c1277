use Rattle.std.proofs.Common.{◌≡◌, ◌+◌, ◌<◌, [], length, get_or, refl, sym, ap, ◌∙◌, subst, arith}
use Rattle.std.proofs.lemmas.List.{length_push, take_all}
use Rattle.std.proofs.lemmas.Iterator.Adapters.{YieldsList-from_vec}
use Rattle.std.proofs.lemmas.Iterator.Consumers.{YieldsList-turn, YieldsList-end}
use Rattle.dname.specs.Tests.{each_once, same_octets}
use Rattle.intake.specs.Once.{news}
use Rattle.intake.proofs.NewLemmas.{HasTaken, taken_new, taken_old, length-news_after}
use Rattle.intake.proofs.each_once.firsts_of.Goals as goal
use Rattle.intake.proofs.each_once.firsts_of.Goals.{then-index+in_ok-push, else-index}

pub loop-item-init : goal.loop-item-init
loop-item-init c = (refl, c.empty-kept.ensures)

pub index-requires : goal.index-requires
index-requires c =
    let all = c.into_iter-item-iterator.ensures.into_iter_gives.0 ∙ c.into_vec-item-items.ensures in
    let turn = YieldsList-turn (YieldsList-from_vec {s = c.into_iter-item-iterator.result} c.args.octets all (omega (arith, ap length all))) c.loop-item.yielded c.loop-item.item-iterator c.loop-item.yielded_by c.next.result c.next.new.self c.in-Some.item c.in-Some.is c.next.ensures.steps in
    let size = length-news_after [] c.args.octets in
    let new : c.in_ok-new.new.items ≡ news c.args.octets = c.in_ok-new.ensures ∙ ap news c.as_slice.ensures in
    let long = ap length new in
    omega (arith, turn.0, size, long, c.loop-item.invariant.0)

pub overflow_add-at : goal.overflow_add-at
overflow_add-at c =
    let all = c.into_iter-item-iterator.ensures.into_iter_gives.0 ∙ c.into_vec-item-items.ensures in
    let turn = YieldsList-turn (YieldsList-from_vec {s = c.into_iter-item-iterator.result} c.args.octets all (omega (arith, ap length all))) c.loop-item.yielded c.loop-item.item-iterator c.loop-item.yielded_by c.next.result c.next.new.self c.in-Some.item c.in-Some.is c.next.ensures.steps in
    let size = length-news_after [] c.args.octets in
    let new : c.in_ok-new.new.items ≡ news c.args.octets = c.in_ok-new.ensures ∙ ap news c.as_slice.ensures in
    let long = ap length new in
    omega (arith, turn.0, size, long, c.loop-item.invariant.0)

pub loop-item-preserved-then-if-drop : goal.loop-item-preserved-then-if-drop
loop-item-preserved-then-if-drop c =
    let all = c.into_iter-item-iterator.ensures.into_iter_gives.0 ∙ c.into_vec-item-items.ensures in
    let turn = YieldsList-turn (YieldsList-from_vec {s = c.into_iter-item-iterator.result} c.args.octets all (omega (arith, ap length all))) c.loop-item.yielded c.loop-item.item-iterator c.loop-item.yielded_by c.next.result c.next.new.self c.in-Some.item c.in-Some.is c.next.ensures.steps in
    let new : c.in_ok-new.new.items ≡ news c.args.octets = c.in_ok-new.ensures ∙ ap news c.as_slice.ensures in
    let below : c.loop-item.at < length c.args.octets = omega (arith, turn.0, c.loop-item.invariant.0) in
    let is : c.in-Some.item ≡ get_or c.args.octets c.loop-item.at c.in-Some.item = turn.1 ∙ ap (λ n. get_or c.args.octets n c.in-Some.item) (sym c.loop-item.invariant.0) in (
      omega (arith, length_push c.loop-item.yielded c.in-Some.item, c.loop-item.invariant.0),
      elim c.if-index.branch [
        | then-index+in_ok-push w ↦ taken_new c.args.octets c.in_ok-new.new.items c.loop-item.at c.loop-item.kept c.if-index.kept c.in-Some.item c.index.result.now new c.loop-item.invariant.1 below is c.index.ensures w.if-index.true (w.kept-is ∙ w.in_ok-push.ensures.ok)
        | else-index w ↦ subst (HasTaken c.args.octets (c.loop-item.at + 1)) (sym w.kept-is) (taken_old c.args.octets c.in_ok-new.new.items c.loop-item.at c.loop-item.kept c.in-Some.item c.index.result.now new c.loop-item.invariant.1 below is c.index.ensures w.if-index.false)
      ],
    )

pub loop-item-preserved : goal.loop-item-preserved
loop-item-preserved c =
    let all = c.into_iter-item-iterator.ensures.into_iter_gives.0 ∙ c.into_vec-item-items.ensures in
    let turn = YieldsList-turn (YieldsList-from_vec {s = c.into_iter-item-iterator.result} c.args.octets all (omega (arith, ap length all))) c.loop-item.yielded c.loop-item.item-iterator c.loop-item.yielded_by c.next.result c.next.new.self c.in-Some.item c.in-Some.is c.next.ensures.steps in
    let new : c.in_ok-new.new.items ≡ news c.args.octets = c.in_ok-new.ensures ∙ ap news c.as_slice.ensures in
    let below : c.loop-item.at < length c.args.octets = omega (arith, turn.0, c.loop-item.invariant.0) in
    let is : c.in-Some.item ≡ get_or c.args.octets c.loop-item.at c.in-Some.item = turn.1 ∙ ap (λ n. get_or c.args.octets n c.in-Some.item) (sym c.loop-item.invariant.0) in (
      omega (arith, length_push c.loop-item.yielded c.in-Some.item, c.loop-item.invariant.0),
      elim c.if-index.branch [
        | then-index+in_ok-push w ↦ taken_new c.args.octets c.in_ok-new.new.items c.loop-item.at c.loop-item.kept c.if-index.kept c.in-Some.item c.index.result.now new c.loop-item.invariant.1 below is c.index.ensures w.if-index.true (w.kept-is ∙ w.in_ok-push.ensures.ok)
        | else-index w ↦ subst (HasTaken c.args.octets (c.loop-item.at + 1)) (sym w.kept-is) (taken_old c.args.octets c.in_ok-new.new.items c.loop-item.at c.loop-item.kept c.in-Some.item c.index.result.now new c.loop-item.invariant.1 below is c.index.ensures w.if-index.false)
      ],
    )

pub returns : goal.returns
returns c =
    let all = c.into_iter-item-iterator.ensures.into_iter_gives.0 ∙ c.into_vec-item-items.ensures in
    let end = YieldsList-end (YieldsList-from_vec {s = c.into_iter-item-iterator.result} c.args.octets all (omega (arith, ap length all))) c.loop-item.yielded c.loop-item.item-iterator c.loop-item.yielded_by c.next.result c.next.new.self c.in-None.is c.next.ensures.steps in
    c.loop-item.invariant.1 ∙ ap (each_once same_octets) (take_all c.loop-item.at c.args.octets (omega (arith, end.1, c.loop-item.invariant.0)))
