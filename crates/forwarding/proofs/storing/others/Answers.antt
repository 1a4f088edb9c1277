use Rattle.forwarding.proofs.PassedLemmas.{others_next, others_of}
use Rattle.forwarding.proofs.storing.others.Goals as goal

pub loop-i-preserved : goal.loop-i-preserved
loop-i-preserved c =
    others_next c.args.passed.now c.args.records.now c.loop-i.others c.keep.new.others (others_of c.args.passed.now c.args.records.now) c.loop-i.i c.get.result.now c.get.ensures c.in_ok-keep.ensures c.loop-i.invariant
