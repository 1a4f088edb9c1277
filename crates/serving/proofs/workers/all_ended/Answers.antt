use Rattle.std.proofs.Common.{◌≡◌, ◌∷◌, [], ◌++◌, length, sym, ap, ◌∙◌, arith, append_assoc}
use Rattle.std.specs.Vec.Iter.{into_iter_items}
use Rattle.std.proofs.lemmas.List.{map-append}
use Rattle.serving.proofs.EndedLemmas.{more_ended, room_left}
use Rattle.serving.proofs.workers.all_ended.Goals as goal

pub loop-worker-preserved : goal.loop-worker-preserved
loop-worker-preserved g c =
    let at = c.loop-worker in
    let worker = c.in-Some.worker in
    let steps : into_iter_items at.worker-iterator ≡ worker ∷ into_iter_items c.next.new.self = c.in-Some.ensures.steps.0 in
    record {
      rest = append_assoc at.yielded (worker ∷ []) _ ∙ ap (λ l. at.yielded ++ l) (sym steps) ∙ at.invariant.rest;
      len = (let was = at.invariant.len in let gone = c.in-Some.ensures.steps.1 in let short = ap length steps in omega arith);
      seats = c.push_reserved.ensures.items ∙ ap (λ l. l ++ worker.seat ∷ []) at.invariant.seats ∙ sym (map-append (λ w. w.seat) at.yielded (worker ∷ []));
      links = c.push_reserved-in-loop-worker.ensures.items ∙ ap (λ l. l ++ worker.link ∷ []) at.invariant.links ∙ sym (map-append (λ w. w.link) at.yielded (worker ∷ []));
      ended = more_ended (λ w. w.ended) at.yielded worker at.ended c.worse_of-ended.result at.invariant.ended c.worse_of-ended.ensures;
      seats_room = c.push_reserved.ensures.capacity ∙ at.invariant.seats_room;
      links_room = c.push_reserved-in-loop-worker.ensures.capacity ∙ at.invariant.links_room;
    }

pub push_reserved-requires : goal.push_reserved-requires
push_reserved-requires g c =
    let at = c.loop-worker in
    let all : into_iter_items c.into_iter-worker-iterator.result ≡ c.args.workers.items = c.into_iter-worker-iterator.ensures.into_iter_gives.0 in
    room_left (λ w. w.seat) at.yielded (into_iter_items at.worker-iterator) c.args.workers.items (into_iter_items c.next.new.self) c.in-Some.worker at.seats.items _ _ _
    at.seats.ok.0 at.invariant.seats (at.invariant.rest ∙ all) c.in-Some.ensures.steps.0 c.requires.seats.1 at.invariant.seats_room

pub push_reserved-requires-in-loop-worker : goal.push_reserved-requires-in-loop-worker
push_reserved-requires-in-loop-worker g c =
    let at = c.loop-worker in
    let all : into_iter_items c.into_iter-worker-iterator.result ≡ c.args.workers.items = c.into_iter-worker-iterator.ensures.into_iter_gives.0 in
    room_left (λ w. w.link) at.yielded (into_iter_items at.worker-iterator) c.args.workers.items (into_iter_items c.next.new.self) c.in-Some.worker at.links.items _ _ _
    at.links.ok.0 at.invariant.links (at.invariant.rest ∙ all) c.in-Some.ensures.steps.0 c.requires.links.1 at.invariant.links_room
