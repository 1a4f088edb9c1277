use Rattle.std.proofs.Common.{refl}
use Rattle.worker_seats.proofs.FramesLemmas.{few_frames, frames_in}
use Rattle.worker_seats.proofs.frames.Frames.of.Goals as goal

pub invariant_of-result : goal.invariant_of-result
invariant_of-result c = let frames = frames_in c.args.workers c.args.octets.now (c.if-are_frames.ensures.spelled refl) in (frames.spelled, frames.valid)

pub returns-then-are_frames-clause-frames : goal.returns-then-are_frames-clause-frames
returns-then-are_frames-clause-frames c = frames_in c.args.workers c.args.octets.now (c.if-are_frames.ensures.spelled refl)

pub returns-then-are_frames-clause-few : goal.returns-then-are_frames-clause-few
returns-then-are_frames-clause-few c = few_frames c.args.workers c.args.octets.now _ (frames_in c.args.workers c.args.octets.now (c.if-are_frames.ensures.spelled refl))
