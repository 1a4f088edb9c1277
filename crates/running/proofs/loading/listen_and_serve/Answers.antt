use Rattle.std.proofs.Common.{length}
use Rattle.std.specs.Prelude.{OnOk}
use Rattle.cache_versions.specs.Seats.{seen_by}
use Rattle.stream_server.specs.Served.{AreAllServed, CameBack}
use Rattle.resolver.proofs.GoneOnLemmas.{only_read_self}
use Rattle.running.proofs.ConnectionLemmas.{early_since, unlistened}
use Rattle.running.proofs.loading.listen_and_serve.Goals as goal

pub returns-in-Ok-clause-early : goal.returns-in-Ok-clause-early
returns-in-Ok-clause-early g c =
    let gateway = g.W.Gateway in
    early_since c.args.connections (g.C.Clock.moment c.args.clock.now) (length (seen_by c.args.seat.now)) (seen_by c.serve_connections.new.seat)
    (gateway.came_back c.args.gateway.now) (gateway.came_back c.serve_connections.new.gateway) (gateway.failures c.args.gateway.now) (gateway.failures c.serve_connections.new.gateway) (gateway.faults c.args.gateway.now) (gateway.faults c.serve_connections.new.gateway)
    c.serve_connections.result (gateway.came_back c.listen.new.self) (gateway.failures c.listen.new.self) (gateway.faults c.listen.new.self)
    c.in-Ok.ensures.came_back c.in-Ok.ensures.failures c.in-Ok.ensures.cause c.serve_connections.ensures.early

pub returns-in-Ok-clause-served : goal.returns-in-Ok-clause-served
returns-in-Ok-clause-served g c =
    let gateway = g.W.Gateway in
    rw (← c.in-Ok.ensures.came_back) c.serve_connections.ensures.served

pub returns-in-Err-clause-early : goal.returns-in-Err-clause-early
returns-in-Err-clause-early g c =
    let gateway = g.W.Gateway in
    unlistened c.args.connections (g.C.Clock.moment c.args.clock.now) (length (seen_by c.args.seat.now)) (seen_by c.args.seat.now)
    (gateway.came_back c.args.gateway.now) (gateway.came_back c.listen.new.self) (gateway.failures c.args.gateway.now) (gateway.failures c.listen.new.self) (gateway.faults c.args.gateway.now) (gateway.faults c.listen.new.self)
    c.in-Err.ensures.came_back c.in-Err.ensures.failures c.in-Err.ensures.cause

pub returns-in-Err-clause-read : goal.returns-in-Err-clause-read
returns-in-Err-clause-read g c = only_read_self c.args.cache.now c.args.seat.now c.requires.seat
