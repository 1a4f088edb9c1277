use Rattle.std.proofs.Common.{◌≡◌, ◌≤◌, take}
use Rattle.forwarding.specs.Done.{due_in}
use Rattle.forwarding.proofs.ticking.due.Given as goal

abbrev pub invariant-loop-slot : goal.invariant-loop-slot
invariant-loop-slot l = record {
  counted : l.number ≡ due_in l.now (take l.slot l.table);
  small : l.number ≤ l.slot;
}
