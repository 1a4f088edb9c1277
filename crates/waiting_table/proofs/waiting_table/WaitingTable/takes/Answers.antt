use Rattle.std.proofs.Common.{sym, ap, ◌∙◌, List, get_or}
use Rattle.std.proofs.lemmas.Bool.{ne_eqb}
use Rattle.waiting_table.specs.Waiting.{Slot, slot_at, takes}
use Rattle.waiting_table.proofs.IndexLemmas.{other_mark}
use Rattle.waiting_table.proofs.waiting_table.WaitingTable.takes.Goals as goal

pub returns-else-self-slot : goal.returns-else-self-slot
returns-else-self-slot c =
    let fields = c.self.inside in
    let none = other_mark c.args.question.now (slot_at fields.held.items c.args.slot) _ (get_or fields.index.marks c.args.slot 0) _ _ (c.self.invariant.each c.args.slot c.requires.slot) (λ e. c.if-self-slot.false (e ∙ sym c.requires.mark)) in
    ne_eqb _ _ c.if-self-slot.false
    ∙ sym (ap (λ (t : List Slot). takes c.args.question.now (slot_at t c.args.slot)) (sym c.self.view_is) ∙ none)
