use Rattle.std.proofs.Common.{◌≡◌, drop, map}
use Rattle.waiting_table.specs.Waiting.{clients_in, slot_at}
use Rattle.forwarding.specs.Done.{answered}
use Rattle.forwarding.specs.Lawful.{more_sent}
use Rattle.forwarding.proofs.telling.relay_all.Given as goal

-- with the clients that are left all are told
abbrev pub invariant-loop-i : goal.invariant-loop-i
invariant-loop-i g l =
    more_sent (g.O.Outlet.told l.outlet) (map (answered l.message) (drop l.i (clients_in (slot_at l.table l.slot))))
    ≡ more_sent (g.O.Outlet.told l.initial.outlet) (map (answered l.message) (clients_in (slot_at l.table l.slot)))
