use Rattle.std.proofs.Common.{[], ◌++◌, length, sym, ap, ◌∙◌, arith}
use Rattle.std.specs.List.{filter, fold}
use Rattle.std.proofs.lemmas.List.{map-id}
use Rattle.std.proofs.lemmas.List.Elements.{All-append}
use Rattle.std.proofs.lemmas.Iterator.Adapters.{YieldsList-from_vec}
use Rattle.std.proofs.lemmas.Iterator.Consumers.{YieldsList-turn, YieldsList-end}
use Rattle.intake.specs.Pile.{HasFixedPart, is_live, signed, with_data, with_covering}
use Rattle.intake.proofs.TakeLemmas.{live_long, signed_more, live_of_both, piles_of_both}
use Rattle.intake.proofs.grouping.piles_of.Goals as goal

pub loop-signature-init : goal.loop-signature-init
loop-signature-init c = record {
  is_table = c.in_ok-take_in-2.ensures.table;
  piles_are = piles_of_both c.args.answer c.args.authority c.take_in.new.table.piles.items c.take_in-2.new.table.piles.items
      (c.in_ok-take_in.ensures.piles ∙ ap (λ ps. fold with_data ps c.args.answer) c.in_ok-table.ensures.piles)
      c.in_ok-take_in-2.ensures.piles;
}

pub covered_key-key-requires : goal.covered_key-key-requires
covered_key-key-requires c =
    let live = live_of_both c.args.now c.args.answer c.args.authority c.take_in.new.signatures.items c.take_in-2.new.signatures.items
    (c.in_ok-take_in.ensures.live ∙ ap (λ rs. rs ++ filter (is_live c.args.now) c.args.answer) c.in_ok-signatures.ensures.items)
    c.in_ok-take_in-2.ensures.live in
    let all = c.into_iter-signature-iterator.ensures.into_iter_gives.0 ∙ live in
    let turn = YieldsList-turn (YieldsList-from_vec {s = c.into_iter-signature-iterator.result} (filter (is_live c.args.now) (c.args.answer ++ c.args.authority)) all (omega (arith, ap length all))) c.loop-signature.yielded c.loop-signature.signature-iterator c.loop-signature.yielded_by c.next.result c.next.new.self c.in-Some.signature c.in-Some.is c.next.ensures.steps in
    live_long c.args.now (c.args.answer ++ c.args.authority) (length c.loop-signature.yielded) c.in-Some.signature (All-append HasFixedPart c.args.answer c.args.authority c.requires.answer c.requires.authority) turn.0 turn.1

pub sign-requires : goal.sign-requires
sign-requires c = c.loop-signature.invariant.is_table

pub loop-signature-preserved : goal.loop-signature-preserved
loop-signature-preserved c =
    signed_more (fold with_data [] (c.args.answer ++ c.args.authority)) c.loop-signature.yielded c.loop-signature.table c.sign.new.self c.in-Some.signature c.loop-signature.invariant c.in_ok-sign.ensures.table
    (c.in_ok-sign.ensures.piles ∙ ap (λ key. signed key c.in-Some.signature.octets c.loop-signature.table.piles.items) c.covered_key-key.ensures)

pub returns : goal.returns
returns c =
    let live = live_of_both c.args.now c.args.answer c.args.authority c.take_in.new.signatures.items c.take_in-2.new.signatures.items
    (c.in_ok-take_in.ensures.live ∙ ap (λ rs. rs ++ filter (is_live c.args.now) c.args.answer) c.in_ok-signatures.ensures.items)
    c.in_ok-take_in-2.ensures.live in
    let all = c.into_iter-signature-iterator.ensures.into_iter_gives.0 ∙ live in
    let end = YieldsList-end (YieldsList-from_vec {s = c.into_iter-signature-iterator.result} (filter (is_live c.args.now) (c.args.answer ++ c.args.authority)) all (omega (arith, ap length all))) c.loop-signature.yielded c.loop-signature.signature-iterator c.loop-signature.yielded_by c.next.result c.next.new.self c.in-None.is c.next.ensures.steps in
    c.loop-signature.invariant.piles_are ∙ ap (fold with_covering (fold with_data [] (c.args.answer ++ c.args.authority))) (sym (map-id c.loop-signature.yielded) ∙ end.0)
