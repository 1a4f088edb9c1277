use Rattle.std.proofs.Common.{◌∙◌, ap, arith}
use Rattle.std.proofs.lemmas.List.{take_all}
use Rattle.forwarding.specs.Done.{due_in}
use Rattle.forwarding.proofs.TickLemmas.{due_more, due_same}
use Rattle.forwarding.proofs.ticking.due.Goals as goal
use Rattle.forwarding.proofs.ticking.due.Goals.{then-is_asked_again, else-is_asked_again}

pub loop-slot-preserved : goal.loop-slot-preserved
loop-slot-preserved c =
    let at = c.loop-slot in
    elim c.if-is_asked_again.branch [
      | then-is_asked_again w ↦ record {
        counted = w.number-is ∙ due_more c.args.now c.args.table.now at.slot at.number c.is_asked_again.result (omega (arith, c.len-slot-end.ensures.value)) at.invariant.counted c.is_asked_again.ensures w.if-is_asked_again.true;
        small = omega arith;
      }
      | else-is_asked_again w ↦ record {
        counted = w.number-is ∙ due_same c.args.now c.args.table.now at.slot at.number c.is_asked_again.result (omega (arith, c.len-slot-end.ensures.value)) at.invariant.counted c.is_asked_again.ensures w.if-is_asked_again.false;
        small = omega arith;
      }
    ]

pub returns : goal.returns
returns c =
    let at = c.loop-slot in
    at.invariant.counted ∙ ap (λ l. due_in c.args.now l) (take_all at.slot c.args.table.now (omega (arith, c.len-slot-end.ensures.value)))
