use Rattle.std.proofs.Common.{◌-◌, ◌<◌, ◌≤◌, length, take}
use Rattle.std.specs.List.{flat_map}
use Rattle.page_list.specs.Search.{IsTestAt, HasNarrowed}
use Rattle.page_list.proofs.row.Row.block_to_search_at.Given as goal

abbrev pub invariant-loop-high : goal.invariant-loop-high
invariant-loop-high g l = record {
  order : l.low < l.high;
  in_range : l.high ≤ length l.self;
  narrowed : HasNarrowed (flat_map g.B.Block.entries l.self)
      (IsTestAt g.F.Fn l.before l.mark (flat_map g.B.Block.entries l.self))
      (length (flat_map g.B.Block.entries (take l.low l.self)))
      (length (flat_map g.B.Block.entries (take l.high l.self)));
}

abbrev pub decreases-loop-high : goal.decreases-loop-high
decreases-loop-high g l = l.high - l.low
