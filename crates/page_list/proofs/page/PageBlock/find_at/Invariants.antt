use Rattle.std.proofs.Common.{◌-◌}
use Rattle.page_list.specs.Search.{IsTestAt, HasNarrowed}
use Rattle.page_list.proofs.page.PageBlock.find_at.Given as goal

abbrev pub invariant-loop-low : goal.invariant-loop-low
invariant-loop-low g l = HasNarrowed l.self (IsTestAt g.F.Fn l.before l.mark l.self) l.low l.high

abbrev pub decreases-loop-low : goal.decreases-loop-low
decreases-loop-low g l = l.high - l.low
