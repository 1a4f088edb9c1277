use Rattle.cache_versions.specs.Seats.{seen_by}
use Rattle.forwarding.proofs.HoldingLemmas.{held_first}
use Rattle.forwarding.proofs.LawfulLemmas.{begun}
use Rattle.forwarding.proofs.worker.serve_on.Goals as goal

pub loop-init : goal.loop-init
loop-init g c = record {
  object = c.requires.object;
  work = begun c.args.passed.now (seen_by c.args.seat.now) c.args.table.now c.args.counts.now (g.O.Outlet.told c.args.outlet.now) c.requires.table c.requires.counts c.requires.outlet;
  held = held_first c.nothing-holding.result (seen_by c.args.seat.now) c.nothing-holding.ensures;
}
