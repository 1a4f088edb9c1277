use Rattle.std.proofs.Common.{◌-◌, ◌<◌, length}
use Rattle.page_list.specs.Search.{BeginsLesser}
use Rattle.page_list.proofs.row.Row.last_lesser.Given as goal

abbrev pub invariant-loop-at : goal.invariant-loop-at
invariant-loop-at g l = record {
  in_range : l.last < length l.self;
  lesser : 0 < l.last → BeginsLesser g.B.Block.entries l.self l.mark l.last;
}

abbrev pub decreases-loop-at : goal.decreases-loop-at
decreases-loop-at g l = length l.self - l.at

abbrev pub invariant-loop-last : goal.invariant-loop-last
invariant-loop-last g l = record {
  in_range : l.last < length l.self;
  lesser : 0 < l.last → BeginsLesser g.B.Block.entries l.self l.mark l.last;
}

abbrev pub decreases-loop-last : goal.decreases-loop-last
decreases-loop-last g l = length l.self - l.last
