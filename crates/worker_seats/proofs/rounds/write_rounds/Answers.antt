use Rattle.std.proofs.Common.{◌∙◌, ◌+◌, ◌≤◌, length, arith}
use Rattle.worker_seats.specs.Cuts.{cuts_in}
use Rattle.worker_seats.proofs.GatherLemmas.{err_to, ok_to}
use Rattle.worker_seats.proofs.RoundLemmas.{ranges_all, ranges_cut, ranges_more, ranges_rest}
use Rattle.worker_seats.proofs.rounds.write_rounds.Goals as goal

pub returns-then-reached-until-clause-written : goal.returns-then-reached-until-clause-written
returns-then-reached-until-clause-written g c = ok_to c.write_from.result (ranges_rest _ _ 0 c.in-Ok.reached _ _ _
    (ranges_more _ _ 0 c.loop-next.next _ _ _ c.loop-next.invariant.written c.in-Ok.reached c.in-Ok.ensures.written)) c.write_from.ensures.written

pub returns-then-reached-until-clause-part : goal.returns-then-reached-until-clause-part
returns-then-reached-until-clause-part g c = err_to c.write_from.result (ranges_cut _ _ 0 c.in-Ok.reached _ _ _
    (ranges_more _ _ 0 c.loop-next.next _ _ _ c.loop-next.invariant.written c.in-Ok.reached c.in-Ok.ensures.written)) c.write_from.ensures.part

pub loop-next-preserved : goal.loop-next-preserved
loop-next-preserved g c = record {
  within = omega (arith, c.in-Ok.ensures.reached.1, c.min-until.ensures);
  written = ranges_more _ _ 0 c.loop-next.next _ _ _ c.loop-next.invariant.written c.in-Ok.reached c.in-Ok.ensures.written;
  faults = c.in-Ok.ensures.faults ∙ c.loop-next.invariant.faults;
}

pub returns-in-Err-clause-part : goal.returns-in-Err-clause-part
returns-in-Err-clause-part g c = ranges_cut _ _ 0 c.loop-next.next _ _ _ c.loop-next.invariant.written c.in-Err.ensures.part

pub returns-clause-written : goal.returns-clause-written
returns-clause-written g c =
    let all : cuts_in (length c.args.frames.now) + 1 ≤ c.loop-next.next = omega (arith, c.loop-next-test.false, c.requires.ranges) in
    ranges_all _ _ 0 c.loop-next.next _ _ all c.loop-next.invariant.written
