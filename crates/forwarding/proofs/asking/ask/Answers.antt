use Rattle.std.proofs.Common.{◌∙◌, ℕ, ◌∷◌, [], List, sym, ap, subst}
use Rattle.cache_versions.specs.Seats.{seen_by}
use Rattle.forwarding.specs.Done.{to_upstream}
use Rattle.forwarding.specs.Lawful.{MaySend, more_sent}
use Rattle.forwarding.proofs.asking.ask.Goals as goal

pub ask-requires-clause-lawful : goal.ask-requires-clause-lawful
ask-requires-clause-lawful g c =
    subst (λ (o : List ℕ). MaySend c.args.passed.now (seen_by c.args.seat.now) (g.O.Outlet.told c.args.outlet.now) (to_upstream c.args.slot c.args.carrier o))
    (sym (c.as_slice.ensures.value ∙ c.write_ask.ensures.value)) c.requires.lawful

pub returns : goal.returns
returns g c =
    c.ask.ensures
    ∙ ap (λ (o : List ℕ). more_sent (g.O.Outlet.told c.args.outlet.now) (to_upstream c.args.slot c.args.carrier o ∷ [])) (c.as_slice.ensures.value ∙ c.write_ask.ensures.value)
