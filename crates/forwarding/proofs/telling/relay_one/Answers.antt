use Rattle.std.proofs.Common.{◌∙◌, ℕ, ◌∷◌, [], List, sym, ap, subst}
use Rattle.cache_versions.specs.Seats.{seen_by}
use Rattle.forwarding.specs.Done.{to_client}
use Rattle.forwarding.specs.Lawful.{MaySend, more_sent}
use Rattle.forwarding.proofs.telling.relay_one.Goals as goal

pub reply-requires-clause-lawful : goal.reply-requires-clause-lawful
reply-requires-clause-lawful g c =
    subst (λ (o : List ℕ). MaySend c.args.passed.now (seen_by c.args.seat.now) (g.O.Outlet.told c.args.outlet.now) (to_client c.args.client.now.number o))
    (sym (c.octets-octets.ensures.value ∙ c.write_answer.ensures)) c.requires.lawful

pub returns : goal.returns
returns g c =
    c.reply.ensures
    ∙ ap (λ (o : List ℕ). more_sent (g.O.Outlet.told c.args.outlet.now) (to_client c.args.client.now.number o ∷ [])) (c.octets-octets.ensures.value ∙ c.write_answer.ensures)
