use Rattle.std.proofs.Common.{◌∙◌, ap}
use Rattle.cache_versions.specs.Seats.{seen_by}
use Rattle.waiting_table.specs.declared.place.Place.{Place}
use Rattle.waiting_table.specs.Steps.{placed}
use Rattle.waiting_table.specs.Waiting.{client_of}
use Rattle.forwarding.proofs.DoneLemmas.{ask_may, give_up_may, waits_sent}
use Rattle.forwarding.proofs.asking.wait.Goals as goal

pub give_up-requires-clause-lawful : goal.give_up-requires-clause-lawful
give_up-requires-clause-lawful g c =
    give_up_may c.args.passed.now (seen_by c.args.seat.now) (g.O.Outlet.told c.args.outlet.now) c.args.table.now c.args.now c.args.id c.args.client c.args.carrier c.args.question.now c.args.place c.requires.place c.requires.lawful

pub ask_at-requires-clause-lawful : goal.ask_at-requires-clause-lawful
ask_at-requires-clause-lawful g c =
    ask_may c.args.passed.now (seen_by c.args.seat.now) (g.O.Outlet.told c.args.outlet.now) c.args.table.now c.args.now c.args.id c.args.client c.args.carrier c.args.question.now c.args.place c.requires.place (g.O.Outlet.told c.give_up.new.outlet) c.requires.lawful c.give_up.ensures

pub returns-clause-table : goal.returns-clause-table
returns-clause-table g c =
    c.enter.ensures ∙ ap (λ (p : Place). placed c.args.now c.args.id (client_of c.args.client c.args.carrier c.args.question.now) c.args.table.now p) c.requires.place

pub returns-clause-told : goal.returns-clause-told
returns-clause-told g c =
    waits_sent c.args.passed.now (seen_by c.args.seat.now) (g.O.Outlet.told c.args.outlet.now) c.args.table.now c.args.now c.args.id c.args.client c.args.carrier c.args.question.now c.args.place c.requires.place (g.O.Outlet.told c.give_up.new.outlet) (g.O.Outlet.told c.ask_at.new.outlet) c.give_up.ensures c.ask_at.ensures
