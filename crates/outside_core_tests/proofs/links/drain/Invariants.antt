use Rattle.std.proofs.Common.{◌≡◌, ◌-◌, ◌≤◌, ◌++◌, List, length, map, option_map}
use Rattle.std.specs.List.{All}
use Rattle.outside_core.specs.declared.datagram.Datagram.{Datagram}
use Rattle.outside_core.specs.declared.event.Event.TheVariants.{Found}
use Rattle.outside_core.specs.Datagram.{IsClient}
use Rattle.outside_core_tests.proofs.links.drain.Given as goal

abbrev pub invariant-loop-count : goal.invariant-loop-count
invariant-loop-count g l = record {
  within : l.count ≤ 16;
  found : (came : List Datagram) × (length came ≡ l.count)
      × All (λ (one : Datagram). IsClient one.peer) came
      × (g.L.Link.events l.link ≡ option_map (λ before. before ++ map Found came) (g.L.Link.events l.fn.link));
  port : g.L.Link.port l.link ≡ g.L.Link.port l.fn.link;
  upstream : g.L.Link.upstream l.link ≡ g.L.Link.upstream l.fn.link;
  faults : g.L.Link.faults l.link ≡ g.L.Link.faults l.fn.link;
}

abbrev pub decreases-loop-count : goal.decreases-loop-count
decreases-loop-count g l = 16 - l.count
