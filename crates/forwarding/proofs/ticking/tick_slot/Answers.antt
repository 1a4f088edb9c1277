use Rattle.std.proofs.Common.{◌∙◌, None, sym, ap, subst, set}
use Rattle.std.proofs.lemmas.List.{set-get_or}
use Rattle.cache_versions.specs.Seats.{seen_by}
use Rattle.waiting_table.specs.Waiting.{slot_at}
use Rattle.forwarding.specs.Lawful.{MaySendAll, more_sent}
use Rattle.forwarding.proofs.LawfulLemmas.{sent_none}
use Rattle.forwarding.proofs.TickLemmas.{due_sends, due_slot, late_sends, late_slot, rest_sends, rest_slot}
use Rattle.forwarding.proofs.ticking.tick_slot.Goals as goal

pub fail_all-requires-clause-lawful : goal.fail_all-requires-clause-lawful
fail_all-requires-clause-lawful g c =
    subst (MaySendAll c.args.passed.now (seen_by c.args.seat.now) (g.O.Outlet.told c.args.outlet.now))
    (late_sends c.args.now c.args.slot c.args.id (slot_at c.args.table.now c.args.slot) (sym c.is_late.ensures ∙ c.if-is_late.true)) c.requires.lawful

pub returns-then-is_late-clause-table : goal.returns-then-is_late-clause-table
returns-then-is_late-clause-table g c =
    c.free.ensures ∙ ap (set c.args.table.now c.args.slot) (sym (late_slot c.args.now c.args.id (slot_at c.args.table.now c.args.slot) (sym c.is_late.ensures ∙ c.if-is_late.true)))

pub returns-then-is_late-clause-told : goal.returns-then-is_late-clause-told
returns-then-is_late-clause-told g c =
    c.fail_all.ensures ∙ ap (more_sent (g.O.Outlet.told c.args.outlet.now)) (sym (late_sends c.args.now c.args.slot c.args.id (slot_at c.args.table.now c.args.slot) (sym c.is_late.ensures ∙ c.if-is_late.true)))

pub returns-then-not-is_due-clause-table : goal.returns-then-not-is_due-clause-table
returns-then-not-is_due-clause-table g c =
    sym (ap (set c.args.table.now c.args.slot) (rest_slot c.args.now c.args.id (slot_at c.args.table.now c.args.slot) (sym c.is_late.ensures ∙ c.if-is_late.false) (sym c.is_due.ensures ∙ c.if-not-is_due.true)) ∙ set-get_or c.args.table.now c.args.slot None)

pub returns-then-not-is_due-clause-told : goal.returns-then-not-is_due-clause-told
returns-then-not-is_due-clause-told g c =
    sym (sent_none (g.O.Outlet.told c.args.outlet.now))
    ∙ ap (more_sent (g.O.Outlet.told c.args.outlet.now)) (sym (rest_sends c.args.now c.args.slot c.args.id (slot_at c.args.table.now c.args.slot) (sym c.is_late.ensures ∙ c.if-is_late.false) (sym c.is_due.ensures ∙ c.if-not-is_due.true)))

pub ask-requires-clause-lawful : goal.ask-requires-clause-lawful
ask-requires-clause-lawful g c =
    subst (MaySendAll c.args.passed.now (seen_by c.args.seat.now) (g.O.Outlet.told c.args.outlet.now))
    (due_sends c.args.now c.args.slot c.args.id (slot_at c.args.table.now c.args.slot) c.question.result.now (sym c.is_late.ensures ∙ c.if-is_late.false) (sym c.is_due.ensures ∙ c.if-not-is_due.false) c.question.ensures) c.requires.lawful

pub ask_again-requires-clause-due : goal.ask_again-requires-clause-due
ask_again-requires-clause-due g c = sym c.is_due.ensures ∙ c.if-not-is_due.false

pub returns-clause-table : goal.returns-clause-table
returns-clause-table g c =
    c.ask_again.ensures ∙ ap (set c.args.table.now c.args.slot) (sym (due_slot c.args.now c.args.id (slot_at c.args.table.now c.args.slot) (sym c.is_late.ensures ∙ c.if-is_late.false) (sym c.is_due.ensures ∙ c.if-not-is_due.false)))

pub returns-clause-told : goal.returns-clause-told
returns-clause-told g c =
    c.ask.ensures ∙ ap (more_sent (g.O.Outlet.told c.args.outlet.now)) (sym (due_sends c.args.now c.args.slot c.args.id (slot_at c.args.table.now c.args.slot) c.question.result.now (sym c.is_late.ensures ∙ c.if-is_late.false) (sym c.is_due.ensures ∙ c.if-not-is_due.false) c.question.ensures))
