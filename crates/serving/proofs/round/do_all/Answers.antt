use Rattle.std.proofs.Common.{◌∙◌, arith, refl}
use Rattle.std.proofs.lemmas.List.{length-set}
use Rattle.serving.proofs.RoundLemmas.{does_all, does_more, does_none}
use Rattle.serving.proofs.round.do_all.Goals as goal

pub loop-i-init : goal.loop-i-init
loop-i-init g c = record {
  object = c.requires.object;
  number = refl;
  room = refl;
  done = does_none (g.C.Clock.moment c.args.clock.now) c.args.seat.now c.args.core.now;
  first = λ is. (refl, refl);
}

pub loop-i-preserved : goal.loop-i-preserved
loop-i-preserved g c = record {
  object = c.in_ok-do_one.ensures.on.object;
  number = c.in_ok-do_one.ensures.on.number ∙ c.loop-i.invariant.number;
  room = length-set c.loop-i.answers.items c.loop-i.i c.do_one.new.answer ∙ c.loop-i.invariant.room;
  done = does_more c.loop-i.i (g.C.Clock.moment c.args.clock.now) c.args.seat.now c.loop-i.seat c.do_one.new.seat c.args.core.now c.loop-i.core c.do_one.new.core
      c.args.datagrams.now c.loop-i.answers.items c.index-datagrams-i.result c.do_one.new.answer c.now-now.result
      (omega (arith, c.loop-i-test.true, c.loop-i.auto.i-end)) c.index-datagrams-i.is (omega (arith, c.loop-i-test.true, c.loop-i.auto.i-end, c.requires.room, c.loop-i.invariant.room))
      c.now-now.ensures c.in_ok-do_one.ensures.done c.loop-i.invariant.done;
  first = λ is. absurd (omega (arith, is));
}

pub returns-clause-done : goal.returns-clause-done
returns-clause-done g c =
    does_all c.loop-i.i (g.C.Clock.moment c.args.clock.now) c.args.seat.now c.loop-i.seat c.args.core.now c.loop-i.core c.args.datagrams.now c.loop-i.answers.items
    (omega (arith, c.loop-i-test.false, c.loop-i.auto.i-end)) c.loop-i.invariant.done
