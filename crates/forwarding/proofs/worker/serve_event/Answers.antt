use Rattle.std.proofs.Common.{◌∙◌, ℕ, sym, ap}
use Rattle.arrivals.specs.declared.came.Came.TheVariants as comes
use Rattle.cache_versions.specs.Seats.{seen_by}
use Rattle.forwarding.proofs.HoldingLemmas.{held_now, held_still}
use Rattle.forwarding.proofs.worker.serve_event.Goals as goal

pub serve_answer-requires-clause-answer : goal.serve_answer-requires-clause-answer
serve_answer-requires-clause-answer g c = c.in-Answer.is ∙ ap (λ (slot : ℕ). comes.Answer slot c.in-Answer.carrier) (sym c.from-at.ensures)

pub show-requires : goal.show-requires
show-requires g c = record {
  object = c.serve_tick.ensures.object;
  exact = (c.serve_tick.new.table, c.serve_tick.ensures.work);
  holding = c.serve_tick.ensures.holding;
}
