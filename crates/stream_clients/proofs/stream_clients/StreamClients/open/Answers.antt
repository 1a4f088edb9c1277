use Rattle.std.proofs.Common.{◌≡◌, ◌∙◌, List, ap, arith, sym}
use Rattle.std.proofs.lemmas.List.{get_or_read}
use Rattle.stream_clients.specs.Places.{Place, place_at, unused}
use Rattle.stream_clients.proofs.PlaceLemmas.{free_has_room}
use Rattle.stream_clients.proofs.stream_clients.StreamClients.open.Goals as goal

pub begin-requires : goal.begin-requires
begin-requires c =
    let room = free_has_room c.args.self.now c.in_ok-place.place (sym c.in_ok-place.ensures.place) in
    let here = get_or_read c.self.inside.places.items c.in_ok-place.place c.index_mut-free.result.now (omega (arith, c.self.invariant, c.in_ok-place.ensures.within)) c.index_mut-free.ensures.value unused in
    let generation : c.index_mut-free.result.now.generation ≡ (place_at c.args.self.now c.in_ok-place.place).generation = ap (λ (p : Place). p.generation) (here ∙ ap (λ (ps : List Place). place_at ps c.in_ok-place.place) c.self.view_is) in
    omega (arith, room, generation)
