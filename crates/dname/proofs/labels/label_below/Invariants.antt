use Rattle.std.proofs.Common.{length}
use Rattle.dname.proofs.MeetLemmas.{Nears}
use Rattle.dname.proofs.labels.label_below.Given as goal

abbrev pub invariant-loop-label : goal.invariant-loop-label
invariant-loop-label l = Nears l.initial.name l.initial.apex l.name l.label

abbrev pub decreases-loop-label : goal.decreases-loop-label
decreases-loop-label l = length l.name
