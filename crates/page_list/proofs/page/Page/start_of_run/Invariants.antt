use Rattle.std.proofs.Common.{◌-◌, length}
use Rattle.page_list.specs.Search.{IsBehindLesser}
use Rattle.page_list.proofs.page.Page.start_of_run.Given as goal

abbrev pub invariant-loop-at : goal.invariant-loop-at
invariant-loop-at g l = IsBehindLesser l.mark l.entries l.start

abbrev pub decreases-loop-at : goal.decreases-loop-at
decreases-loop-at g l = length l.entries - l.at

abbrev pub invariant-loop-start : goal.invariant-loop-start
invariant-loop-start g l = IsBehindLesser l.mark l.entries l.start

abbrev pub decreases-loop-start : goal.decreases-loop-start
decreases-loop-start g l = length l.entries - l.start
