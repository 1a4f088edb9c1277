use Rattle.std.proofs.Common.{◌≡◌, ◌∷◌, [], ◌++◌, length, sym, ap, ◌∙◌, arith, append_assoc}
use Rattle.std.specs.Vec.Iter.{into_iter_items}
use Rattle.std.proofs.lemmas.List.{map-append}
use Rattle.worker_seats.specs.Work.{part_of}
use Rattle.worker_seats.proofs.workers.split.Goals as goal

pub loop-shift-preserved : goal.loop-shift-preserved
loop-shift-preserved c =
    let at = c.loop-shift in
    let shift = c.in-Some.shift in
    let steps : into_iter_items at.shift-iterator ≡ shift ∷ into_iter_items c.next.new.self = c.in-Some.ensures.steps.0 in
    record {
      rest = append_assoc at.yielded (shift ∷ []) _ ∙ ap (λ l. at.yielded ++ l) (sym steps) ∙ at.invariant.rest;
      len = (let was = at.invariant.len in let gone = c.in-Some.ensures.steps.1 in let short = ap length steps in omega arith);
      seats = c.in_ok-push.ensures.items ∙ ap (λ l. l ++ shift.seat ∷ []) at.invariant.seats ∙ sym (map-append (λ s. s.seat) at.yielded (shift ∷ []));
      parts = c.in_ok-push-2.ensures.items ∙ ap (λ l. l ++ part_of shift ∷ []) at.invariant.parts ∙ sym (map-append part_of at.yielded (shift ∷ []));
    }
