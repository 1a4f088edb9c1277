use Rattle.std.proofs.Common.{length}
use Rattle.dname.proofs.MeetLemmas.{Loses}
use Rattle.dname.proofs.labels.ends_in.Given as goal

abbrev pub invariant-loop-name : goal.invariant-loop-name
invariant-loop-name l = Loses l.initial.name l.initial.other l.name

abbrev pub decreases-loop-name : goal.decreases-loop-name
decreases-loop-name l = length l.name
