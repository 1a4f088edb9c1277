use Rattle.std.proofs.Common.{◌-◌, ◌<◌, ◌≤◌, length, take}
use Rattle.std.specs.List.{flat_map}
use Rattle.page_list.proofs.row.Row.place.Given as goal

abbrev pub invariant-loop-high : goal.invariant-loop-high
invariant-loop-high g l = record {
  order : l.low < l.high;
  in_range : l.high ≤ length l.self;
  below : length (flat_map g.B.Block.entries (take l.low l.self)) ≤ l.at;
  above : l.at < length (flat_map g.B.Block.entries (take l.high l.self));
}

abbrev pub decreases-loop-high : goal.decreases-loop-high
decreases-loop-high g l = l.high - l.low
