use Rattle.std.proofs.Common.{◌-◌, ◌≤◌, length}
use Rattle.page_list.proofs.page.Page.end_of_run.Given as goal

abbrev pub invariant-loop-end : goal.invariant-loop-end
invariant-loop-end g l = record {
  order : l.low ≤ l.end;
  in_range : l.end ≤ length l.entries;
}

abbrev pub decreases-loop-end : goal.decreases-loop-end
decreases-loop-end g l = length l.entries - l.end
