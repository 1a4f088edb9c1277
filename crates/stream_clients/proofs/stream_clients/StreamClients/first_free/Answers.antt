use Rattle.std.proofs.Common.{◌≡◌, ◌<◌, ◌∙◌, ap, arith, length, sym, true}
use Rattle.std.proofs.lemmas.List.{get_or_read}
use Rattle.stream_clients.specs.Places.{is_free, place_at, unused}
use Rattle.stream_clients.proofs.PlaceLemmas.{first_is, none_is}
use Rattle.stream_clients.proofs.stream_clients.StreamClients.first_free.Goals as goal

pub returns-then-is_free-clause-place : goal.returns-then-is_free-clause-place
returns-then-is_free-clause-place c =
    let size : length c.args.self.now ≡ 32 = ap length (sym c.self.view_is) ∙ c.self.invariant in
    let within : c.loop-place.place < length c.self.inside.places.items = omega (arith, c.self.invariant) in
    let here = get_or_read c.self.inside.places.items c.loop-place.place c.index.result.now within c.index.ensures unused in
    let free : is_free (place_at c.args.self.now c.loop-place.place) ≡ true = rw (← c.self.view_is, ← here) (sym c.is_free.ensures ∙ c.if-is_free.true) in
    sym (first_is c.args.self.now c.loop-place.place (omega (arith, size)) c.loop-place.invariant free)

pub returns-clause-place : goal.returns-clause-place
returns-clause-place c =
    let size : length c.args.self.now ≡ 32 = ap length (sym c.self.view_is) ∙ c.self.invariant in
    sym (none_is c.args.self.now (λ k h. c.loop-place.invariant k (omega (arith, size))))
