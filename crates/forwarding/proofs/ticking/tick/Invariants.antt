use Rattle.std.proofs.Common.{◌≡◌, ◌++◌, drop, take, length}
use Rattle.waiting_table.specs.Steps.{ticked}
use Rattle.forwarding.specs.Done.{ticks_from}
use Rattle.forwarding.specs.Lawful.{more_sent}
use Rattle.forwarding.proofs.ticking.tick.Given as goal

-- with the slots that are left all are ticked, and all is sent
abbrev pub invariant-loop-slot : goal.invariant-loop-slot
invariant-loop-slot g l = record {
  size : length l.table ≡ length l.initial.table;
  table : take l.slot l.table ++ ticked l.now (drop l.slot l.ids) (drop l.slot l.table) ≡ ticked l.now l.ids l.initial.table;
  told : more_sent (g.O.Outlet.told l.outlet) (ticks_from l.now l.slot (drop l.slot l.ids) (drop l.slot l.table)) ≡ more_sent (g.O.Outlet.told l.initial.outlet) (ticks_from l.now 0 l.ids l.initial.table);
}
