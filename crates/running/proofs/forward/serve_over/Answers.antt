use Rattle.resolver.specs.Caches.{IsSeatOf}
use Rattle.forwarding.specs.Lawful.{IsNew}
use Rattle.serving.proofs.EndedLemmas.{all_of_map}
use Rattle.running.proofs.forward.serve_over.Goals as goal

pub serve_all-ended-requires-clause-object : goal.serve_all-ended-requires-clause-object
serve_all-ended-requires-clause-object g c = λ κs outlives.
    all_of_map (λ seat. IsSeatOf c.in-Ok-with_seats.cache seat) (λ worker. worker.seat) c.in-Ok-workers_of.workers.items c.in-Ok-with_seats.seats.items c.in-Ok-workers_of.ensures.seats
    (λ k d within. (c.in-Ok-with_seats.ensures.fresh k d within).0)

pub serve_all-ended-requires-clause-new : goal.serve_all-ended-requires-clause-new
serve_all-ended-requires-clause-new g c = λ κs outlives.
    all_of_map (λ outlet. IsNew c.args.passed.now (g.U.Outlet.told outlet)) (λ worker. worker.outlet) c.in-Ok-workers_of.workers.items c.args.opened.items c.in-Ok-workers_of.ensures.outlets c.requires.new
