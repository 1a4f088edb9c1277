use Rattle.std.proofs.Common.{◌∙◌, subst}
use Rattle.cache_versions.specs.Seats.{seen_by}
use Rattle.stream_server.specs.Stream.{HasFaults}
use Rattle.stream_server.proofs.NextLemmas.{next_as}
use Rattle.stream_server.proofs.connection.serve_next.Goals as goal

pub returns-clause-served : goal.returns-clause-served
returns-clause-served g c =
    let source = g.W.Source.Source in
    let sink = g.W.Sink.Sink in
    let was = c.in-Ok.ensures in
    let after = c.serve_stream-ended.new in
    let none = subst (λ n. HasFaults n (source.faults after.source) (sink.faults c.in-Ok.sink) (sink.faults after.sink) c.serve_stream-ended.result) was.unfailed_source c.serve_stream-ended.ensures.faults in
    let none' = subst (λ n. HasFaults 0 (source.faults after.source) n (sink.faults after.sink) c.serve_stream-ended.result) was.unfailed_sink none in
    rw c.ended_as.ensures
    (next_as (g.C.Clock.moment c.args.clock.now) (seen_by c.args.seat.now) (seen_by after.seat) _ _ _ _ _ _ _ _ was.taken was.written
    (g.W.Gateway.came_back c.args.gateway.now) (g.W.Gateway.came_back c.part.new.self) (rw (← was.came_back) c.part.ensures.came_back)
    (g.W.Gateway.failures c.args.gateway.now) (g.W.Gateway.failures c.part.new.self) (g.W.Gateway.faults c.args.gateway.now) (g.W.Gateway.faults c.part.new.self) (c.part.ensures.failures ∙ was.failures) (rw (← was.cause) c.part.ensures.counts)
    c.serve_stream-ended.result c.serve_stream-ended.ensures.streamed none')
