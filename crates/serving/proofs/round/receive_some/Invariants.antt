use Rattle.std.proofs.Common.{◌-◌, ◌≡◌, ◌≤◌, length, take}
use Rattle.std.specs.List.{All}
use Rattle.outside_core.specs.Datagram.{IsClient}
use Rattle.serving.specs.AtWork.{came_as}
use Rattle.serving.specs.Worker.{more_told}
use Rattle.serving.proofs.round.receive_some.Given as goal

abbrev pub invariant-loop-count : goal.invariant-loop-count
invariant-loop-count g l = record {
  some : 1 ≤ l.count;
  most : l.count ≤ l.most;
  within : l.count ≤ length l.datagrams.items;
  room : length l.datagrams.items ≡ length l.fn.datagrams.items;
  came : g.L.Link.events l.link ≡ more_told (g.L.Link.events l.fn.link) (came_as (take l.count l.datagrams.items));
  clients : All (λ datagram. IsClient datagram.peer) (take l.count l.datagrams.items);
  port : g.L.Link.port l.link ≡ g.L.Link.port l.fn.link;
  upstream : g.L.Link.upstream l.link ≡ g.L.Link.upstream l.fn.link;
  faults : g.L.Link.faults l.link ≡ g.L.Link.faults l.fn.link;
}

abbrev pub decreases-loop-count : goal.decreases-loop-count
decreases-loop-count g l = l.most - l.count
