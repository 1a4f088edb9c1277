use Rattle.cache_versions.specs.Seats.{seen_by}
use Rattle.forwarding.proofs.LawfulLemmas.{called}
use Rattle.forwarding.proofs.worker.serve_next.Goals as goal

pub serve_event-requires-clause-called : goal.serve_event-requires-clause-called
serve_event-requires-clause-called g c =
    called c.args.passed.now (seen_by c.args.seat.now) c.args.table.now c.args.counts.now c.receive.new.into (g.O.Outlet.told c.args.outlet.now) (g.O.Outlet.told c.receive.new.self) c.requires.work c.receive.ensures
