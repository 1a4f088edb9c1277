use Rattle.std.proofs.Common.{◌∙◌, sym}
use Rattle.waiting_table.specs.Waiting.{slot_at}
use Rattle.forwarding.proofs.TickLemmas.{late_counted, none_late}
use Rattle.forwarding.proofs.ticking.late_at.Goals as goal

pub returns-then-is_late : goal.returns-then-is_late
returns-then-is_late c =
    late_counted c.args.now c.clients.result (slot_at c.args.table.now c.args.slot) (sym c.is_late.ensures ∙ c.if-is_late.true) c.clients.ensures

pub returns-else-is_late : goal.returns-else-is_late
returns-else-is_late c =
    none_late c.args.now (slot_at c.args.table.now c.args.slot) (sym c.is_late.ensures ∙ c.if-is_late.false)
