use Rattle.std.proofs.Common.{length, ◌-◌}
use Rattle.dname.proofs.ReadLemmas.{HasRead}
use Rattle.dname.proofs.reader.wire_size.Given as goal

abbrev pub invariant-loop-size : goal.invariant-loop-size
invariant-loop-size l = HasRead l.octets l.before

abbrev pub decreases-loop-size : goal.decreases-loop-size
decreases-loop-size l = length l.octets - l.before
