use Rattle.std.proofs.Common.{◌≡◌, ◌∷◌, [], ◌++◌, ℕ, length, map, sym, ap, subst, ◌∙◌, arith, append_assoc, rules}
use Rattle.std.specs.Vec.Iter.{into_iter_items}
use Rattle.std.proofs.lemmas.List.{map-append}
use Rattle.cache_versions.proofs.Rows.{each_snoc}
use Rattle.worker_seats.specs.declared.shift.Job.{Job}
use Rattle.worker_seats.specs.Work.{ArePlaced}
use Rattle.worker_seats.proofs.workers.jobs_of.Goals as goal

pub loop-seat-preserved : goal.loop-seat-preserved
loop-seat-preserved c =
    let at = c.loop-seat in
    let seat = c.in-Some.seat in
    let job : Job = record { worker = c.len-worker.result; seat = seat } in
    let steps : into_iter_items at.seat-iterator ≡ seat ∷ into_iter_items c.next.new.self = c.in-Some.ensures.steps.0 in
    let pushed : c.push.new.self.items ≡ at.jobs.items ++ job ∷ [] = c.in_ok-push.ensures.items in
    record {
      rest = append_assoc at.yielded (seat ∷ []) _ ∙ ap (λ l. at.yielded ++ l) (sym steps) ∙ at.invariant.rest;
      len = (let was = at.invariant.len in let gone = c.in-Some.ensures.steps.1 in let short = ap length steps in omega arith);
      all = ap (map (λ j. j.seat)) pushed ∙ map-append (λ j. j.seat) at.jobs.items (job ∷ []) ∙ ap (λ l. l ++ seat ∷ []) at.invariant.all;
      places = subst ArePlaced (sym pushed) (each_snoc (λ (i : ℕ) (j : Job). j.worker ≡ i) at.jobs.items job at.invariant.places (search rules));
    }
