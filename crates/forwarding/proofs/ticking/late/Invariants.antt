use Rattle.std.proofs.Common.{◌≡◌, length, take}
use Rattle.std.specs.Prelude.{◌%◌, ◌^◌}
use Rattle.waiting_table.specs.Steps.{late_clients}
use Rattle.forwarding.proofs.ticking.late.Given as goal

abbrev pub invariant-loop-slot : goal.invariant-loop-slot
invariant-loop-slot l = l.number ≡ length (late_clients l.now (take l.slot l.table)) % 2 ^ 64
