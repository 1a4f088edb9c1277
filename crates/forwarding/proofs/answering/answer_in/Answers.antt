use Rattle.std.proofs.Common.{List, ℕ, subst}
use Rattle.std.specs.Prelude.{IfOk}
use Rattle.forwarding.specs.Done.{IsAnswer}
use Rattle.forwarding.proofs.answering.answer_in.Goals as goal

pub returns-clause-answer : goal.returns-clause-answer
returns-clause-answer c = subst (λ (o : List ℕ). IfOk c.answer_of.result (IsAnswer o)) c.as_slice.ensures.value c.answer_of.ensures.answer
