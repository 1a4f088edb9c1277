use Rattle.std.proofs.Common.{length}
use Rattle.worker_seats.proofs.FramesLemmas.{HasFrames}
use Rattle.worker_seats.proofs.frames.are_frames.Given as goal

abbrev pub invariant-loop-rest : goal.invariant-loop-rest
invariant-loop-rest l = HasFrames l.workers l.octets l.rest

abbrev pub decreases-loop-rest : goal.decreases-loop-rest
decreases-loop-rest l = length l.rest
