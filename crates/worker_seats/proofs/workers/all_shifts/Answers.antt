use Rattle.std.proofs.Common.{◌≡◌, ◌∷◌, [], ◌++◌, length, map, Ok, sym, ap, ◌∙◌, arith, append_assoc}
use Rattle.std.specs.Vec.Iter.{into_iter_items}
use Rattle.std.proofs.lemmas.List.{map-append}
use Rattle.worker_seats.proofs.workers.all_shifts.Goals as goal

pub loop-result-preserved : goal.loop-result-preserved
loop-result-preserved c =
    let at = c.loop-result in
    let shift = c.in_ok-shift.shift in
    let steps : into_iter_items at.result-iterator ≡ c.in-Some.result ∷ into_iter_items c.next.new.self = c.in-Some.ensures.steps.0 in
    record {
      rest = append_assoc at.yielded (c.in-Some.result ∷ []) _ ∙ ap (λ l. at.yielded ++ l) (sym steps) ∙ at.invariant.rest;
      len = (let was = at.invariant.len in let gone = c.in-Some.ensures.steps.1 in let short = ap length steps in omega arith);
      all = (λ i. at.invariant.all i ++ (c.in_ok-shift.was i ∷ [])) ∙ sym (map-append (λ s. Ok s) at.shifts.items (shift ∷ [])) ∙ ap (map (λ s. Ok s)) (sym c.in_ok-push.ensures.items);
    }
