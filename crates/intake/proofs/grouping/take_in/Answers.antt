use Rattle.std.proofs.Common.{◌++◌, length, sym, ap, ◌∙◌, subst, arith}
use Rattle.std.specs.List.{filter, fold}
use Rattle.std.proofs.lemmas.List.{map-id}
use Rattle.std.proofs.lemmas.Iterator.Adapters.{YieldsList-from_vec}
use Rattle.std.proofs.lemmas.Iterator.Consumers.{YieldsList-turn, YieldsList-end}
use Rattle.intake.specs.Pile.{HasFixedPart, is_live, with_data}
use Rattle.intake.proofs.TakeLemmas.{taken_none, taken_data, taken_live, taken_dead}
use Rattle.intake.proofs.grouping.take_in.Goals as goal

pub loop-rr-init : goal.loop-rr-init
loop-rr-init c = taken_none c.args.now c.args.table.now c.args.signatures.now.items c.requires.table

pub add-requires : goal.add-requires
add-requires c = c.loop-rr.invariant.is_table

pub loop-rr-preserved-in-Continue-1 : goal.loop-rr-preserved-in-Continue-1
loop-rr-preserved-in-Continue-1 c =
    taken_data c.args.now c.args.table.now.piles.items c.args.signatures.now.items c.loop-rr.yielded c.loop-rr.table c.add.new.self c.loop-rr.signatures.items c.in-Some.rr
    c.loop-rr.invariant c.if-rr-ne-RRSIG_TYPE.true c.in_ok-add.ensures.table c.in_ok-add.ensures.piles

pub loop-rr-preserved-in-Continue-branch-2 : goal.loop-rr-preserved-in-Continue-branch-2
loop-rr-preserved-in-Continue-branch-2 c =
    taken_live c.args.now c.args.table.now.piles.items c.args.signatures.now.items c.loop-rr.yielded c.loop-rr.table c.loop-rr.signatures.items c.push.new.self.items c.in-Some.rr c.is_live.result
    c.loop-rr.invariant c.if-rr-ne-RRSIG_TYPE.false c.is_live.ensures c.if-is_live.true c.in_ok-push.ensures.items

pub loop-rr-preserved : goal.loop-rr-preserved
loop-rr-preserved c =
    taken_dead c.args.now c.args.table.now.piles.items c.args.signatures.now.items c.loop-rr.yielded c.loop-rr.table c.loop-rr.signatures.items c.in-Some.rr c.is_live.result
    c.loop-rr.invariant c.if-rr-ne-RRSIG_TYPE.false c.is_live.ensures c.if-is_live.false

pub is_live-requires : goal.is_live-requires
is_live-requires c =
    let all = c.into_iter-rr-iterator.ensures.into_iter_gives.0 ∙ c.into_vec-rr-items.ensures in
    let turn = YieldsList-turn (YieldsList-from_vec {s = c.into_iter-rr-iterator.result} c.args.rrs all (omega (arith, ap length all))) c.loop-rr.yielded c.loop-rr.rr-iterator c.loop-rr.yielded_by c.next.result c.next.new.self c.in-Some.rr c.in-Some.is c.next.ensures.steps in
    subst HasFixedPart (sym turn.1) (c.requires.whole (length c.loop-rr.yielded) c.in-Some.rr turn.0)

pub returns-clause-table : goal.returns-clause-table
returns-clause-table c = c.loop-rr.invariant.is_table

pub returns-clause-piles : goal.returns-clause-piles
returns-clause-piles c =
    let all = c.into_iter-rr-iterator.ensures.into_iter_gives.0 ∙ c.into_vec-rr-items.ensures in
    let end = YieldsList-end (YieldsList-from_vec {s = c.into_iter-rr-iterator.result} c.args.rrs all (omega (arith, ap length all))) c.loop-rr.yielded c.loop-rr.rr-iterator c.loop-rr.yielded_by c.next.result c.next.new.self c.in-None.is c.next.ensures.steps in
    c.loop-rr.invariant.piles_are ∙ ap (fold with_data c.args.table.now.piles.items) (sym (map-id c.loop-rr.yielded) ∙ end.0)

pub returns-clause-live : goal.returns-clause-live
returns-clause-live c =
    let all = c.into_iter-rr-iterator.ensures.into_iter_gives.0 ∙ c.into_vec-rr-items.ensures in
    let end = YieldsList-end (YieldsList-from_vec {s = c.into_iter-rr-iterator.result} c.args.rrs all (omega (arith, ap length all))) c.loop-rr.yielded c.loop-rr.rr-iterator c.loop-rr.yielded_by c.next.result c.next.new.self c.in-None.is c.next.ensures.steps in
    c.loop-rr.invariant.live_are ∙ ap (λ rs. c.args.signatures.now.items ++ filter (is_live c.args.now) rs) (sym (map-id c.loop-rr.yielded) ∙ end.0)
