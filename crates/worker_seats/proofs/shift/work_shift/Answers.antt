use Rattle.std.proofs.Common.{rules, ◌-◌, ◌∙◌, length, refl, arith}
use Rattle.resolver.proofs.GoneOnLemmas.{gone_on_self, gone_on_then}
use Rattle.worker_seats.proofs.FramesLemmas.{other_front, own_front}
use Rattle.worker_seats.specs.Answering.{rule_of}
use Rattle.worker_seats.proofs.ShiftLemmas.{calls_few, cuts_done, frame_own, frame_other, shift_done, under_way_none}
use Rattle.worker_seats.proofs.shift.work_shift.Goals as goal

pub loop-own-init : goal.loop-own-init
loop-own-init g c = record {
  on = gone_on_self c.args.cache.now c.args.job.seat c.requires.object;
  way = under_way_none (rule_of c.args.answering) c.args.job.worker c.args.job.seat c.args.frames.now c.octets-rest.result.now c.reserve_exact.new.self.items c.new-cuts.result.items c.octets-rest.ensures (c.reserve_exact.ensures.items ∙ c.new-octets.ensures.items) c.new-cuts.ensures.items;
}

pub overflow_add-call : goal.overflow_add-call
overflow_add-call g c =
    let at = c.loop-own in
    let (fits, is, own) = own_front at.invariant.way.walk.left _ _ c.args.job.worker c.in-Some.own c.in-Some-own.frame c.in-Some-own.is at.invariant.way.walk.spelled c.in-Some.ensures.shorter c.in-Some.ensures.every in
    omega (arith, calls_few (rule_of c.args.answering) c.args.job.worker c.args.job.seat at.seat c.args.frames.now _ _ _ at.call at.octets.items at.cuts.items at.passed at.invariant.way fits is c.requires.few)

pub loop-own-preserved-in_ok-one_frame : goal.loop-own-preserved-in_ok-one_frame
loop-own-preserved-in_ok-one_frame g c =
    let at = c.loop-own in
    let whole = c.octets-whole.result.now in
    let (fits, is, own) = own_front at.invariant.way.walk.left _ _ c.args.job.worker c.in-Some.own c.in-Some-own.frame c.in-Some-own.is at.invariant.way.walk.spelled c.in-Some.ensures.shorter c.in-Some.ensures.every in
    record {
      on = gone_on_then c.args.cache.now c.args.job.seat at.seat c.one_frame.new.seat at.invariant.on c.in_ok-one_frame.ensures.on;
      way = frame_own (rule_of c.args.answering) c.args.job.worker c.args.job.seat at.seat c.args.frames.now _ _ _ at.call at.octets.items at.cuts.items at.passed at.invariant.way fits is
          whole (record { from = length whole - length at.rest.now; place = c.len.result }) c.count_frame.new.cuts.items c.in_ok-passed.passed c.octets-whole.ensures refl (search rules) c.in_ok-passed.ensures
          c.one_frame.new.seat c.one_frame.new.out.items own c.in_ok-one_frame.ensures.on.begins c.in_ok-one_frame.ensures.done c.in_ok-one_frame.ensures.placed;
    }

pub loop-own-preserved : goal.loop-own-preserved
loop-own-preserved g c =
    let at = c.loop-own in
    let whole = c.octets-whole.result.now in
    let (input, fits, is, other) = other_front at.invariant.way.walk.left _ _ c.args.job.worker c.in-Some.own c.in_default-own.not-Some at.invariant.way.walk.spelled c.in-Some.ensures.shorter c.in-Some.ensures.every in
    record {
      on = at.invariant.on;
      way = frame_other (rule_of c.args.answering) c.args.job.worker c.args.job.seat at.seat c.args.frames.now _ _ _ at.call at.octets.items at.cuts.items at.passed at.invariant.way fits is
          whole (record { from = length whole - length at.rest.now; place = c.len.result }) c.count_frame.new.cuts.items c.in_ok-passed.passed c.octets-whole.ensures refl (search rules) c.in_ok-passed.ensures other;
    }

pub returns-clause-cuts : goal.returns-clause-cuts
returns-clause-cuts g c =
    let at = c.loop-own in
    cuts_done (rule_of c.args.answering) c.args.job.worker c.args.job.seat at.seat c.args.frames.now _ at.call at.octets.items at.cuts.items at.passed at.invariant.way c.in_default.ensures.every

pub returns-clause-work : goal.returns-clause-work
returns-clause-work g c =
    let at = c.loop-own in
    shift_done (rule_of c.args.answering) c.args.job.worker c.args.job.seat at.seat c.args.frames.now _ at.call at.octets.items at.cuts.items at.passed at.invariant.way c.in_default.ensures.every
