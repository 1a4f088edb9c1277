use Rattle.std.proofs.Common.{arith}
use Rattle.dname.proofs.WireLemmas.{lowered_then, lowered_all}
use Rattle.dname.proofs.wire.lower_between.Goals as goal

pub returns : goal.returns
returns c =
    lowered_all _ _ _ _ _ (lowered_then _ _ _ _ _ _ c.loop-at.invariant c.loop-at-2.invariant) c.requires.order c.loop-at-2-test.false (omega (arith, c.requires.within))
