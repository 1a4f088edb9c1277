use Rattle.std.proofs.Common.{◌≡◌, inl, length, Err, ◌∙◌, ap, refl, subst, sym, arith}
use Rattle.std.specs.Prelude.{IfErr}
use Rattle.std.proofs.lemmas.Result.{err_from_is_err_and}
use Rattle.cache_versions.specs.Seats.{seen_by}
use Rattle.resolver.proofs.GoneOnLemmas.{only_read_self, only_read_then}
use Rattle.stream_server.proofs.TurnLemmas.{prefix_length}
use Rattle.stream_server.specs.Served.{AreAllServed, AreServed, CameBack, EndsEarly}
use Rattle.stream_server.proofs.BackLemmas.{begun, step, stopped}
use Rattle.stream_server.proofs.server.serve_connections.Goals as goal

pub loop-init : goal.loop-init
loop-init g c =
    let gateway = g.W.Gateway in
    let at = c.args.gateway.now in
    record {
      read = only_read_self c.args.cache.now c.args.seat.now c.requires.seat;
      listens = refl;
      serving = begun (g.C.Clock.moment c.args.clock.now) (length (seen_by c.args.seat.now)) (seen_by c.args.seat.now) (gateway.came_back at) (gateway.failures at) (gateway.faults at);
    }

pub serve_next-requires-clause-listens : goal.serve_next-requires-clause-listens
serve_next-requires-clause-listens g c κs within = rw c.loop.invariant.listens c.requires.listens

pub loop-preserved : goal.loop-preserved
loop-preserved g c =
    let gateway = g.W.Gateway in
    let first = c.args.gateway.now in
    let before = c.loop.gateway in
    let after = c.serve_next.new.gateway in
    let at = c.loop.invariant in
    let next = c.in_ok-serve_next.ensures in
    record {
      read = only_read_then c.args.cache.now c.args.seat.now c.loop.seat c.serve_next.new.seat at.read next.read;
      listens = next.listens ∙ at.listens;
      serving =
          rw c.noted-failed.ensures
          (step c.loop.counter (g.C.Clock.moment c.args.clock.now) (length (seen_by c.args.seat.now)) (length (seen_by c.loop.seat)) (seen_by c.loop.seat) (seen_by c.serve_next.new.seat)
          (gateway.came_back first) (gateway.came_back before) (gateway.came_back after) (gateway.failures first) (gateway.failures before) (gateway.failures after) (gateway.faults first) (gateway.faults before) (gateway.faults after)
          (prefix_length (seen_by c.args.seat.now) (seen_by c.loop.seat) at.read.on.begins) next.read.on.begins c.loop.failed _ at.serving next.served);
    }

pub returns-in_err-serve_next-clause-early : goal.returns-in_err-serve_next-clause-early
returns-in_err-serve_next-clause-early g c =
    let gateway = g.W.Gateway in
    let first = c.args.gateway.now in
    let before = c.loop.gateway in
    let after = c.serve_next.new.gateway in
    let at = c.loop.invariant in
    let p = err_from_is_err_and c.from_residual.result c.from_residual.ensures.1 in
    subst (λ r. IfErr r (EndsEarly c.args.connections (g.C.Clock.moment c.args.clock.now) (length (seen_by c.args.seat.now)) (seen_by c.serve_next.new.seat)
    (gateway.came_back first) (gateway.came_back after) (gateway.failures first) (gateway.failures after) (gateway.faults first) (gateway.faults after))) (sym (p.1 ∙ ap Err p.2))
    (stopped c.loop.counter (g.C.Clock.moment c.args.clock.now) (length (seen_by c.args.seat.now)) (length (seen_by c.loop.seat)) (seen_by c.loop.seat) (seen_by c.serve_next.new.seat)
    (gateway.came_back first) (gateway.came_back before) (gateway.came_back after) (gateway.failures first) (gateway.failures before) (gateway.failures after) (gateway.faults first) (gateway.faults before) (gateway.faults after)
    (prefix_length (seen_by c.args.seat.now) (seen_by c.loop.seat) at.read.on.begins) c.serve_next.ensures.read.on.begins c.args.connections c.loop.failed _ at.serving c.in_err-serve_next.ensures.served)

pub returns-then-failed-clause-early : goal.returns-then-failed-clause-early
returns-then-failed-clause-early g c =
    let gateway = g.W.Gateway in
    let all : c.loop.counter ≡ c.args.connections = omega (arith, c.loop-test.false, c.loop.auto.counter-end) in
    let at = c.loop.invariant.serving in (
      at.rose c.if-failed.true,
      inl (subst (λ n. CameBack (gateway.came_back c.args.gateway.now) (gateway.came_back c.loop.gateway) (AreServed n (g.C.Clock.moment c.args.clock.now) (length (seen_by c.args.seat.now)) (seen_by c.loop.seat))) all at.came),
    )

pub returns-else-failed-clause-unfailed : goal.returns-else-failed-clause-unfailed
returns-else-failed-clause-unfailed g c = (c.loop.invariant.serving.whole c.if-failed.false).1

pub returns-else-failed-clause-served : goal.returns-else-failed-clause-served
returns-else-failed-clause-served g c =
    let gateway = g.W.Gateway in
    let all : c.loop.counter ≡ c.args.connections = omega (arith, c.loop-test.false, c.loop.auto.counter-end) in
    subst (λ n. CameBack (gateway.came_back c.args.gateway.now) (gateway.came_back c.loop.gateway) (AreAllServed n (g.C.Clock.moment c.args.clock.now) (length (seen_by c.args.seat.now)) (seen_by c.loop.seat))) all
    (c.loop.invariant.serving.whole c.if-failed.false).0
