use Rattle.std.proofs.Common.{◌≤◌, length}
use Rattle.dnswire.specs.Expansions.{Expands, IsTableOf}
use Rattle.dnswire.proofs.name_table.rest_at.Given as goal

abbrev pub invariant-loop-known : goal.invariant-loop-known
invariant-loop-known l = record {
  expands : Expands l.message l.at l.start l.octets.items;
  within : length l.octets.items ≤ l.room;
  table : IsTableOf l.message l.table;
}

abbrev pub decreases-loop-known : goal.decreases-loop-known
decreases-loop-known l = l.start
