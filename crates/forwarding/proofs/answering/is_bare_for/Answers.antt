use Rattle.std.proofs.Common.{◌∙◌, ap}
use Rattle.waiting_table.specs.Waiting.{slot_at}
use Rattle.forwarding.specs.Done.{bare_id, is_bare_for}
use Rattle.forwarding.proofs.answering.is_bare_for.Goals as goal

pub returns-in-Some : goal.returns-in-Some
returns-in-Some c =
    c.has_id.ensures
    ∙ ap (is_bare_for (slot_at c.args.table.now c.args.slot) c.args.carrier) (c.in-Some.ensures ∙ ap bare_id c.as_slice.ensures.value)

pub returns-in-None : goal.returns-in-None
returns-in-None c = ap (is_bare_for (slot_at c.args.table.now c.args.slot) c.args.carrier) (c.in-None.ensures ∙ ap bare_id c.as_slice.ensures.value)
