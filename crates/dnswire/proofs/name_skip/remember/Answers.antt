use Rattle.std.proofs.Common.{arith, length-set}
use Rattle.dnswire.proofs.RunLemmas.{size_after_run, keep_size}
use Rattle.dnswire.proofs.name_skip.remember.Goals as goal

pub loop-start-preserved : goal.loop-start-preserved
loop-start-preserved c =
    let ends = rw c.in-Some-next.is at c.in-Some.ensures.read.ends in
    let kept = c.loop-start.invariant in
    record {
      has = size_after_run _ _ _ _ _ kept.has c.in-Some.ensures.read.passed ends.0;
      small = omega arith;
      sizes = keep_size c.args.message.now c.loop-start.sizes c.loop-start.start c.loop-start.size kept.sizes (omega arith) kept.has;
      room = omega (arith, kept.room, length-set c.loop-start.sizes c.loop-start.start c.loop-start.size);
    }
