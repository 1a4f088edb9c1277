use Rattle.std.proofs.Common.{◌-◌}
use Rattle.page_list.specs.Search.{IsTestOf, HasNarrowed}
use Rattle.page_list.proofs.page.PageBlock.find.Given as goal

abbrev pub invariant-loop-low : goal.invariant-loop-low
invariant-loop-low g l = HasNarrowed l.entries (IsTestOf g.F.Fn l.before) l.low l.high

abbrev pub decreases-loop-low : goal.decreases-loop-low
decreases-loop-low g l = l.high - l.low
