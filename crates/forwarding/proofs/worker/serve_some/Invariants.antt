use Rattle.cache_versions.specs.Seats.{seen_by}
use Rattle.resolver.specs.Caches.{IsSeatOf}
use Rattle.forwarding.specs.Holding.{WasHeld}
use Rattle.forwarding.specs.Lawful.{IsAtWork}
use Rattle.forwarding.proofs.worker.serve_some.Given as goal

abbrev pub invariant-loop : goal.invariant-loop
invariant-loop g l = record {
  object : IsSeatOf l.cache l.seat;
  work : IsAtWork l.passed (seen_by l.seat) l.table l.counts (g.O.Outlet.told l.outlet);
  held : WasHeld l.holding (seen_by l.seat);
}
