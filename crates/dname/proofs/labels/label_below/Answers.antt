use Rattle.std.proofs.Common.{ap, length, arith}
use Rattle.dname.proofs.MeetLemmas.{nears_first, nears_end}
use Rattle.dname.proofs.labels.label_below.Goals as goal

pub loop-label-preserved : goal.loop-label-preserved
loop-label-preserved c =
    nears_first _ _ _ _ _ _ c.loop-label.invariant c.take_first-label.ensures (omega (arith, ap length c.wire.ensures.spelled, ap length c.wire-in-loop-label.ensures.spelled))

pub returns : goal.returns
returns c =
    nears_end _ _ _ _ c.loop-label.invariant (omega (arith, ap length c.wire.ensures.spelled, ap length c.wire-in-loop-label.ensures.spelled, c.loop-label-test.false))
