use Rattle.std.proofs.Common.{◌∙◌, map, sym, ap, subst}
use Rattle.cache_versions.specs.Seats.{seen_by}
use Rattle.waiting_table.specs.declared.place.Place.{Place}
use Rattle.waiting_table.specs.Steps.{given_up}
use Rattle.forwarding.specs.Done.{failed}
use Rattle.forwarding.specs.Lawful.{MaySendAll, more_sent}
use Rattle.forwarding.proofs.LawfulLemmas.{sent_none}
use Rattle.forwarding.proofs.asking.give_up.Goals as goal

pub returns-in-Joins : goal.returns-in-Joins
returns-in-Joins g c =
    let told = g.O.Outlet.told c.args.outlet.now in
    sym (sent_none told) ∙ ap (λ (p : Place). more_sent told (map failed (given_up c.args.table.now p))) (sym c.in-Joins.is)

pub returns-in-Fills : goal.returns-in-Fills
returns-in-Fills g c =
    let told = g.O.Outlet.told c.args.outlet.now in
    sym (sent_none told) ∙ ap (λ (p : Place). more_sent told (map failed (given_up c.args.table.now p))) (sym c.in-Fills.is)

pub fail_all-requires-clause-lawful : goal.fail_all-requires-clause-lawful
fail_all-requires-clause-lawful g c =
    subst (λ (p : Place). MaySendAll c.args.passed.now (seen_by c.args.seat.now) (g.O.Outlet.told c.args.outlet.now) (map failed (given_up c.args.table.now p))) c.in-Replaces.is c.requires.lawful

pub returns-in-Replaces : goal.returns-in-Replaces
returns-in-Replaces g c =
    c.fail_all.ensures ∙ ap (λ (p : Place). more_sent (g.O.Outlet.told c.args.outlet.now) (map failed (given_up c.args.table.now p))) (sym c.in-Replaces.is)
