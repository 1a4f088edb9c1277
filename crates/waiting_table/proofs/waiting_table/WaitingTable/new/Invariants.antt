use Rattle.std.proofs.Common.{◌≡◌, replicate, None}
use Rattle.waiting_table.proofs.waiting_table.WaitingTable.new.Given as goal

abbrev pub invariant-loop : goal.invariant-loop
invariant-loop l = l.held.items ≡ replicate l.counter None
