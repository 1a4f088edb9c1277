use Rattle.std.proofs.Common.{arith, sym, ◌∙◌}
use Rattle.range_index.proofs.WithLemmas.{IsTrimmed-shorter, IsTrimmed-whole, IsTrimmed-none}
use Rattle.range_index.proofs.cut.trimmed.Goals as goal

pub returns-then-span_has : goal.returns-then-span_has
returns-then-span_has g c =
    IsTrimmed-shorter _ c.args.list.now _ _ c.deref-last.result.now (omega arith) c.requires.in_range (rw c.deref-last.ensures c.get.ensures) (sym c.span_has.ensures ∙ c.if-span_has.true)

pub returns-else-span_has : goal.returns-else-span_has
returns-else-span_has g c =
    IsTrimmed-whole _ c.args.list.now _ _ c.deref-last.result.now (omega arith) c.requires.in_range (rw c.deref-last.ensures c.get.ensures) (sym c.span_has.ensures ∙ c.if-span_has.false)

pub returns-then-low-high : goal.returns-then-low-high
returns-then-low-high g c = IsTrimmed-none _ _ _ _ c.requires.order (omega arith)
