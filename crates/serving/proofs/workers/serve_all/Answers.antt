use Rattle.std.proofs.Common.{map, length, sym, ap, subst, ◌∙◌}
use Rattle.std.proofs.lemmas.List.{with_items_is}
use Rattle.resolver.specs.Caches.{IsSeatOf}
use Rattle.serving.specs.Workers.{IsWorst}
use Rattle.serving.proofs.EndedLemmas.{all_ended, all_of_map, room_for_all}
use Rattle.serving.proofs.workers.serve_all.Goals as goal

pub serve_each-requires-after_bounds : goal.serve_each-requires-after_bounds
serve_each-requires-after_bounds g c = λ κs outlives.
    all_of_map (λ s. IsSeatOf c.args.cache.now s) (λ w. w.seat) c.deref_mut.result.now c.args.seats.items (ap (λ l. map (λ w. w.seat) l) c.deref_mut.ensures.value ∙ c.workers_of-workers.ensures.seats) c.requires.object

pub all_ended-requires-clause-seats : goal.all_ended-requires-clause-seats
all_ended-requires-clause-seats g c =
    let workers = c.workers_of-workers.result in
    let back = with_items_is workers c.serve_each.new.workers (c.serve_each.ensures.all ∙ ap length c.deref_mut.ensures.value ∙ sym workers.ok.0) in (
      c.requires.seats.0,
      room_for_all (λ w. w.link) workers.items _ c.args.links.items _ c.workers_of-workers.ensures.links (ap length back ∙ c.serve_each.ensures.all ∙ ap length c.deref_mut.ensures.value) c.requires.seats.1,
    )

pub all_ended-requires-clause-links : goal.all_ended-requires-clause-links
all_ended-requires-clause-links g c =
    let workers = c.workers_of-workers.result in
    let back = with_items_is workers c.serve_each.new.workers (c.serve_each.ensures.all ∙ ap length c.deref_mut.ensures.value ∙ sym workers.ok.0) in (
      c.requires.links.0,
      room_for_all (λ w. w.link) workers.items _ c.args.links.items _ c.workers_of-workers.ensures.links (ap length back ∙ c.serve_each.ensures.all ∙ ap length c.deref_mut.ensures.value) c.requires.links.1,
    )

pub returns : goal.returns
returns g c =
    let workers = c.workers_of-workers.result in
    let was = c.deref_mut.result.now in
    let now = c.serve_each.new.workers in
    let value = c.deref_mut.ensures.value in
    let back = with_items_is workers now (c.serve_each.ensures.all ∙ ap length value ∙ sym workers.ok.0) in
    let all = c.all_ended.result in
    all_ended (λ w. w.seat) (λ w. w.link) (λ w. w.ended) c.args.cache.now c.args.datagrams (g.C.Clock.moment c.args.clock.now)
    was now c.args.seats.items all.seats.items c.args.links.items all.links.items all.ended
    (ap (λ l. map (λ w. w.seat) l) value ∙ c.workers_of-workers.ensures.seats) (ap (λ l. map (λ w. w.link) l) value ∙ c.workers_of-workers.ensures.links)
    c.serve_each.ensures.all c.serve_each.ensures.each
    (c.all_ended.ensures.seats ∙ ap (λ l. map (λ w. w.seat) l) back) (c.all_ended.ensures.links ∙ ap (λ l. map (λ w. w.link) l) back) (subst (λ l. IsWorst all.ended (map (λ w. w.ended) l)) back c.all_ended.ensures.ended)
