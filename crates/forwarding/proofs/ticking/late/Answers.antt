use Rattle.std.proofs.Common.{◌∙◌, ◌+◌, length, refl, ap, arith}
use Rattle.std.specs.Prelude.{◌%◌, ◌^◌}
use Rattle.std.proofs.lemmas.List.{take_all}
use Rattle.waiting_table.specs.Steps.{late_clients}
use Rattle.forwarding.proofs.TickLemmas.{late_next}
use Rattle.forwarding.proofs.ticking.late.Goals as goal

pub loop-slot-preserved : goal.loop-slot-preserved
loop-slot-preserved c =
    let at = c.loop-slot in
    late_next c.args.now c.args.table.now at.slot at.number ((at.number + c.late_at-number.result) % 2 ^ 64) c.late_at-number.result (omega (arith, c.len-slot-end.ensures.value)) at.invariant c.late_at-number.ensures refl

pub returns : goal.returns
returns c =
    let at = c.loop-slot in
    at.invariant ∙ ap (λ l. length (late_clients c.args.now l) % 2 ^ 64) (take_all at.slot c.args.table.now (omega (arith, c.len-slot-end.ensures.value)))
