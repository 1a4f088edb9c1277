use Rattle.std.proofs.Common.{◌+◌, length}
use Rattle.dname.proofs.MeetLemmas.{Meets}
use Rattle.dname.proofs.labels.meet.Given as goal

abbrev pub invariant-loop-name : goal.invariant-loop-name
invariant-loop-name l = Meets l.initial.name l.initial.other l.name l.other l.label l.another

abbrev pub decreases-loop-name : goal.decreases-loop-name
decreases-loop-name l = length l.name + length l.other
