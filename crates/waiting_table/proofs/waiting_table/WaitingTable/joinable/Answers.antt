use Rattle.std.proofs.Common.{sym, ap, ◌∙◌, List, length, arith}
use Rattle.waiting_table.specs.Waiting.{Slot, takes}
use Rattle.waiting_table.proofs.IndexLemmas.{first_is, none_is}
use Rattle.waiting_table.proofs.waiting_table.WaitingTable.joinable.Goals as goal

pub returns-then-takes-clause-place : goal.returns-then-takes-clause-place
returns-then-takes-clause-place c =
    let size = ap (λ (t : List Slot). length t) c.self.view_is in
    sym (first_is (takes c.args.question.now) c.args.self.now c.loop-slot.slot (omega (arith, c.self.invariant.all)) c.loop-slot.invariant (sym c.takes.ensures ∙ c.if-takes.true))

pub returns-clause-place : goal.returns-clause-place
returns-clause-place c =
    let size = ap (λ (t : List Slot). length t) c.self.view_is in
    sym (none_is (takes c.args.question.now) c.args.self.now (λ k h. c.loop-slot.invariant k (omega (arith, c.self.invariant.all))))
