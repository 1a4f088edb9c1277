use Rattle.std.proofs.Common.{◌∙◌, sym}
use Rattle.range_index.proofs.KeyMarkLemmas.{mark_under, mark_before, mark_after, not_under}
use Rattle.range_index.proofs.marks.name_mark.Goals as goal

pub returns-then-is_under : goal.returns-then-is_under
returns-then-is_under c = c.digest_below.ensures ∙ mark_under c.args.apex.now c.args.name.now c.wire-wire.ensures.name (c.is_under.ensures.0 c.if-is_under.true)

pub returns-then-lt : goal.returns-then-lt
returns-then-lt c = mark_before c.args.apex.now c.args.name.now (not_under c.args.apex.now c.args.name.now c.is_under.result c.is_under.ensures.1 c.if-is_under.false) (sym c.lt.ensures ∙ c.if-lt.true)

pub returns-else-lt : goal.returns-else-lt
returns-else-lt c = mark_after c.args.apex.now c.args.name.now (not_under c.args.apex.now c.args.name.now c.is_under.result c.is_under.ensures.1 c.if-is_under.false) (sym c.lt.ensures ∙ c.if-lt.false)
