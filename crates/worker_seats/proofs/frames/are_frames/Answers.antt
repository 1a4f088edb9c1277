use Rattle.std.proofs.Common.{arith, refl}
use Rattle.worker_seats.proofs.FramesLemmas.{frames_all, frames_more, frames_none, no_frame, none_left, other_worker, some_left}
use Rattle.worker_seats.proofs.frames.are_frames.Goals as goal

pub loop-rest-init : goal.loop-rest-init
loop-rest-init c = frames_none c.args.workers c.args.octets.now

pub returns-in_default-clause-none : goal.returns-in_default-clause-none
returns-in_default-clause-none c = λ not.
    no_frame _ _ _ c.loop-rest.invariant (some_left _ _ c.is_empty.ensures c.loop-rest-test.true) (λ input after valid below is. c.in_default.ensures.none refl input after valid is)

pub returns-then-frame-workers-clause-none : goal.returns-then-frame-workers-clause-none
returns-then-frame-workers-clause-none c = λ not.
    other_worker _ _ _ c.in-Some.after.now _ c.loop-rest.invariant (some_left _ _ c.is_empty.ensures c.loop-rest-test.true) c.in-Some.ensures.input c.if-frame-workers.true c.in-Some.ensures.spelled

pub loop-rest-preserved : goal.loop-rest-preserved
loop-rest-preserved c = frames_more _ _ _ _ _ c.loop-rest.invariant c.in-Some.ensures.input (omega (arith, c.if-frame-workers.false)) c.in-Some.ensures.spelled

pub returns-clause-spelled : goal.returns-clause-spelled
returns-clause-spelled c = λ same. frames_all _ _ _ c.loop-rest.invariant (none_left _ _ c.is_empty.ensures c.loop-rest-test.false)
