use Rattle.forwarding.proofs.PassedLemmas.{none_more}
use Rattle.forwarding.proofs.storing.has_left_out.Goals as goal

pub loop-i-preserved : goal.loop-i-preserved
loop-i-preserved c =
    none_more c.args.passed.now c.args.records.now c.loop-i.i c.get.result.now c.is_left_out.result c.get.ensures c.is_left_out.ensures c.if-is_left_out.false c.loop-i.invariant
