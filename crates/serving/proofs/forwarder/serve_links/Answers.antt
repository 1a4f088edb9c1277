use Rattle.std.proofs.Common.{rules, ◌<◌, ◌^◌, subst}
use Rattle.cache_versions.specs.Closes.{journal_at}
use Rattle.serving.specs.Workers.{HaveEnded}
use Rattle.serving.proofs.ServedLemmas.{have_served, never_served}
use Rattle.serving.proofs.forwarder.serve_links.Goals as goal

pub serve_all-seats-requires-clause-object : goal.serve_all-seats-requires-clause-object
serve_all-seats-requires-clause-object g c = λ κs outlives k d lt. (c.in-Ok.ensures.fresh k d lt).0

pub returns : goal.returns
returns g c =
    let service = c.args.service.now in
    let moment = g.C.Clock.moment c.args.clock.now in
    let before = c.in-Ok.seats.items in
    let ended = c.serve_all-seats.result in
    let cache = c.in-Ok.cache in
    let small : service.datagrams < 2 ^ 16 = search rules in
    have_served service cache (journal_at c.close-closed.result) moment before ended.seats.items c.args.links.items ended.links.items ended.ended
    c.requires.most small c.in-Ok.ensures.all.1 c.requires.all c.requires.new
    (λ k d lt. (let fresh = c.in-Ok.ensures.fresh k d lt in (fresh.1, fresh.2)))
    c.close-closed.ensures.seen c.close-closed.ensures.places
    (subst (λ n. HaveEnded cache n moment before ended.seats.items c.args.links.items ended.links.items ended.ended) c.from-datagrams.ensures c.serve_all-seats.ensures)

pub returns-in_default : goal.returns-in_default
returns-in_default g c = never_served c.args.service.now (g.C.Clock.moment c.args.clock.now) c.args.links.items c.unserved.result.links.items c.unserved.result.ended c.requires.all c.requires.new c.unserved.ensures.links c.unserved.ensures.ended

pub returns-in_default-room_for : goal.returns-in_default-room_for
returns-in_default-room_for g c =
    let left = c.unserved-in_default-room_for.result in
    never_served c.args.service.now (g.C.Clock.moment c.args.clock.now) c.args.links.items left.links.items left.ended c.requires.all c.requires.new c.unserved-in_default-room_for.ensures.links c.unserved-in_default-room_for.ensures.ended
