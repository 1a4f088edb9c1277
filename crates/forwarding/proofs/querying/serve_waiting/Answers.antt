use Rattle.std.proofs.Common.{◌∙◌, ℕ, ◌<◌, ◌∷◌, [], false, refl, ap, arith}
use Rattle.facts.proofs.Lists.{all_one}
use Rattle.cache_versions.specs.Seats.{seen_by}
use Rattle.counters.specs.Counts.{counted}
use Rattle.waiting_table.specs.Waiting.{client_of}
use Rattle.waiting_table.specs.declared.place.Place.{Place}
use Rattle.forwarding.specs.Done.{waiting_tallies, waits}
use Rattle.forwarding.specs.declared.want.Want.TheVariants as wants
use Rattle.forwarding.proofs.LawfulLemmas.{at_work}
use Rattle.forwarding.proofs.DoneLemmas.{wait_does}
use Rattle.forwarding.proofs.querying.serve_waiting.Goals as goal

pub wait-requires-clause-lawful : goal.wait-requires-clause-lawful
wait-requires-clause-lawful g c =
    let told = g.O.Outlet.told c.args.outlet.now in
    let seen = seen_by c.args.seat.now in
    let event = c.args.event.now in
    let id = c.draw-id.result in
    let does = wait_does c.args.passed.now c.args.table.now seen event c.args.client c.args.carrier id c.args.question.now c.requires.query c.requires.read c.requires.unproved in
    (c.each_turn_is_lawful.ensures c.args.passed.now seen c.args.table.now c.args.counts.now event (id ∷ []) wants.Nothing (waits c.args.table.now event.moment.millis id (client_of c.args.client c.args.carrier c.args.question.now)) false told told c.requires.called does (all_one (λ (n : ℕ). n < 65536) id (omega (arith, c.draw-id.type_inv))) refl).0

pub returns : goal.returns
returns g c =
    let told = g.O.Outlet.told c.args.outlet.now in
    let told' = g.O.Outlet.told c.wait.new.outlet in
    let seen = seen_by c.args.seat.now in
    let event = c.args.event.now in
    let id = c.draw-id.result in
    let does = wait_does c.args.passed.now c.args.table.now seen event c.args.client c.args.carrier id c.args.question.now c.requires.query c.requires.read c.requires.unproved in
    let done = waits c.args.table.now event.moment.millis id (client_of c.args.client c.args.carrier c.args.question.now) in
    let turn = c.each_turn_is_lawful.ensures c.args.passed.now seen c.args.table.now c.args.counts.now event (id ∷ []) wants.Nothing done false told told' c.requires.called does (all_one (λ (n : ℕ). n < 65536) id (omega (arith, c.draw-id.type_inv))) refl in
    let counting = c.count_wait.ensures ∙ ap (λ (p : Place). counted (waiting_tallies c.args.table.now p) c.args.counts.now) c.place_for-place.ensures.place in
    at_work c.args.passed.now seen done.table c.wait.new.table (counted done.tallies c.args.counts.now) c.count_wait.new.counts told' c.wait.ensures.table counting (turn.1 c.wait.ensures.told)
