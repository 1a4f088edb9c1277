use Rattle.std.proofs.Common.{◌≡◌, ◌∷◌, [], ◌∙◌, ◌++◌, ap, sym, arith, length, append_assoc, length-append}
use Rattle.std.specs.Vec.Iter.{into_iter_items}
use Rattle.worker_seats.proofs.RoundLemmas.{next_range, range_cut, range_told}
use Rattle.worker_seats.proofs.rounds.write_round.Goals as goal

pub returns-in-Err-clause-part : goal.returns-in-Err-clause-part
returns-in-Err-clause-part g c =
    let at = c.loop-result in
    let are : at.yielded ++ c.in-Some.result ∷ into_iter_items c.next.new.self ≡ c.in-Ok-merge_ranges.results.items =
    ap (λ l. at.yielded ++ l) (sym c.in-Some.ensures.steps.0) ∙ at.invariant.rest ∙ c.into_iter-result-iterator.ensures.into_iter_gives.0 in
    let range = next_range _ _ (λ b. b.items) (λ job. job.range) c.in-Ok.jobs.items at.yielded _ _ c.in-Some.result c.in-Ok-result.buffer c.as_slice.result.now c.args.first at.next
    c.in-Ok.ensures.each c.in-Ok-merge_ranges.ensures.each c.in-Ok-merge_ranges.ensures.all are c.in-Ok-result.is at.invariant.next c.as_slice.ensures.value in
    range_cut _ _ c.args.first at.next _ _ _ at.invariant.written c.as_slice.result.now range
    (record { size = c.in-Err.ensures.part.0; strict = c.in-Err.ensures.part.1; written = c.in-Err.ensures.part.2 })

pub loop-result-preserved : goal.loop-result-preserved
loop-result-preserved g c =
    let at = c.loop-result in
    let steps : into_iter_items at.result-iterator ≡ c.in-Some.result ∷ into_iter_items c.next.new.self = c.in-Some.ensures.steps.0 in
    let are : at.yielded ++ c.in-Some.result ∷ into_iter_items c.next.new.self ≡ c.in-Ok-merge_ranges.results.items =
    ap (λ l. at.yielded ++ l) (sym steps) ∙ at.invariant.rest ∙ c.into_iter-result-iterator.ensures.into_iter_gives.0 in
    let range = next_range _ _ (λ b. b.items) (λ job. job.range) c.in-Ok.jobs.items at.yielded _ _ c.in-Some.result c.in-Ok-result.buffer c.as_slice.result.now c.args.first at.next
    c.in-Ok.ensures.each c.in-Ok-merge_ranges.ensures.each c.in-Ok-merge_ranges.ensures.all are c.in-Ok-result.is at.invariant.next c.as_slice.ensures.value in
    record {
      rest = append_assoc at.yielded (c.in-Some.result ∷ []) _ ∙ ap (λ l. at.yielded ++ l) (sym steps) ∙ at.invariant.rest;
      len = (let was = at.invariant.len in let gone = c.in-Some.ensures.steps.1 in let short = ap length steps in omega arith);
      next = omega (arith, at.invariant.next, length-append at.yielded (c.in-Some.result ∷ []));
      written = range_told _ _ c.args.first at.next _ _ _ at.invariant.written c.as_slice.result.now range c.in-Ok-write_whole.ensures.written;
      faults = c.in-Ok-write_whole.ensures.faults ∙ at.invariant.faults;
    }
