use Rattle.std.proofs.Common.{◌≡◌, ◌≤◌}
use Rattle.dnswire.specs.Expansions.{IsKept, IsTableOf}
use Rattle.dnswire.proofs.name_table.remember.Given as goal

abbrev pub invariant-loop-start : goal.invariant-loop-start
invariant-loop-start l = record {
  kept : IsKept l.message l.table.octets.items l.start l.extent;
  small : l.extent.size ≤ 255;
  octets : l.table.octets.items ≡ l.fn.table.octets.items;
  table : IsTableOf l.message l.table;
}

abbrev pub decreases-loop-start : goal.decreases-loop-start
decreases-loop-start l = l.start
