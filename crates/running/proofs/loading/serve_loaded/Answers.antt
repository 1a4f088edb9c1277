use Rattle.std.proofs.Common.{◌≡◌}
use Rattle.cache_versions.specs.Closes.{journal_at}
use Rattle.cache_versions.specs.Seats.{seen_by}
use Rattle.running.proofs.ConnectionLemmas.{part_after, served_after}
use Rattle.running.proofs.LoadLemmas.{HasAll, loaded}
use Rattle.running.proofs.loading.serve_loaded.Goals as goal

all_of : (g : _) (c : goal.After-forget g) → HasAll c.args.frames.now (journal_at c.close-closed.result) (seen_by c.index_mut-seat.result.now) (seen_by c.listen_and_serve-ended.new.seat)
all_of g c =
    let merged = c.in-Ok-worked.ensures.merge in
    loaded c.in-Ok.seats.items c.in-Ok-worked.seats.items c.index_mut-seat.result.now c.listen_and_serve-ended.new.seat (journal_at c.close-closed.result) c.args.frames.now merged.0
    c.in-Ok.ensures.all.1 c.in-Ok-worked.ensures.all c.index_mut-seat.ensures.value c.requires.below c.requires.few (λ k d within. (c.in-Ok.ensures.fresh k d within).2)
    (c.in-Ok-worked.ensures.worked merged.0 merged.1) c.listen_and_serve-ended.ensures.read.on.begins c.listen_and_serve-ended.ensures.read.places
    c.close-closed.ensures.seen c.close-closed.ensures.places

pub returns-clause-served : goal.returns-clause-served
returns-clause-served g c =
    let all = all_of g c in
    served_after c.args.frames.now (journal_at c.close-closed.result) (seen_by c.index_mut-seat.result.now) (seen_by c.listen_and_serve-ended.new.seat) all.by all.first all.last
    c.args.connections (g.C.Clock.moment c.args.clock.now) (g.W.Gateway.came_back c.args.gateway.now) (g.W.Gateway.came_back c.listen_and_serve-ended.new.gateway)
    c.listen_and_serve-ended.result c.listen_and_serve-ended.ensures.served

pub returns-clause-early : goal.returns-clause-early
returns-clause-early g c = λ is.
    let all = all_of g c in
    part_after c.args.frames.now (journal_at c.close-closed.result) (seen_by c.index_mut-seat.result.now) (seen_by c.listen_and_serve-ended.new.seat) all.by all.first all.last
    c.args.connections (g.C.Clock.moment c.args.clock.now) (g.W.Gateway.came_back c.args.gateway.now) (g.W.Gateway.came_back c.listen_and_serve-ended.new.gateway)
    (g.W.Gateway.failures c.args.gateway.now) (g.W.Gateway.failures c.listen_and_serve-ended.new.gateway) (g.W.Gateway.faults c.args.gateway.now) (g.W.Gateway.faults c.listen_and_serve-ended.new.gateway)
    c.listen_and_serve-ended.result is c.listen_and_serve-ended.ensures.early
