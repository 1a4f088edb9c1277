use Rattle.std.proofs.Common.{◌∙◌, sym, ap, subst, ⊎_elim}
use Rattle.cache_versions.specs.Seats.{seen_by}
use Rattle.waiting_table.specs.declared.place.Place.{Place}
use Rattle.forwarding.specs.Done.{asking}
use Rattle.forwarding.specs.Lawful.{MaySendAll, more_sent}
use Rattle.forwarding.proofs.LawfulLemmas.{sent_none}
use Rattle.forwarding.proofs.asking.ask_at.Goals as goal

pub returns-in-Joins : goal.returns-in-Joins
returns-in-Joins g c =
    let told = g.O.Outlet.told c.args.outlet.now in
    sym (sent_none told) ∙ ap (λ (p : Place). more_sent told (asking c.args.id c.args.question.now p)) (sym c.in-Joins.is)

pub ask-requires-clause-lawful : goal.ask-requires-clause-lawful
ask-requires-clause-lawful g c =
    let may = λ (p : Place). MaySendAll c.args.passed.now (seen_by c.args.seat.now) (g.O.Outlet.told c.args.outlet.now) (asking c.args.id c.args.question.now p) in
    ⊎_elim (λ h. subst may h c.requires.lawful) (λ h. subst may h c.requires.lawful) c.in-Fills.is

pub returns-in-Fills : goal.returns-in-Fills
returns-in-Fills g c =
    let sent = λ (p : Place). more_sent (g.O.Outlet.told c.args.outlet.now) (asking c.args.id c.args.question.now p) in
    c.ask.ensures ∙ ⊎_elim (λ h. ap sent (sym h)) (λ h. ap sent (sym h)) c.in-Fills.is
