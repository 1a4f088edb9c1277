use Rattle.std.proofs.Common.{ℕ, ◌<◌, length, sym, ap, subst, arith}
use Rattle.std.specs.List.{All}
use Rattle.replay_meaning.specs.Frame.{Input}
use Rattle.worker_seats.specs.Cuts.{parts_of}
use Rattle.running.proofs.RunLemmas.{cut_by}
use Rattle.running.proofs.commands.run_replay.Goals as goal

pub replay-requires-clause-below : goal.replay-requires-clause-below
replay-requires-clause-below g c = λ κs outlives. c.in-Some.ensures.frames.below

pub replay-requires-clause-few : goal.replay-requires-clause-few
replay-requires-clause-few g c = omega (arith, c.in-Some.ensures.few, ap length c.deref.ensures.value)

pub write_outputs-written-requires-clause-workers : goal.write_outputs-written-requires-clause-workers
write_outputs-written-requires-clause-workers g c = λ κs outlives.
    subst (λ (n : ℕ). All (λ (frame : Input). frame.worker < n) c.in-Some.frames) (sym c.in-Ok-replay.ensures.all) c.in-Some.ensures.frames.below

pub returns-clause-cut : goal.returns-clause-cut
returns-clause-cut g c = λ fault.
    cut_by c.args.answering c.args.workers c.in-Some.frames (parts_of c.in-Ok-replay.outputs) c.deref.result.now c.in-Ok.input.items _ _ _ _
    c.deref.ensures.value c.in-Ok-replay.ensures.replay c.in-Some.ensures.frames c.in-Err.ensures.part c.in-Ok.ensures.left (c.in-Ok.ensures.end (omega arith))
