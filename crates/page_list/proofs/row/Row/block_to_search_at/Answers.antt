use Rattle.std.proofs.Common.{◌∙◌, arith}
use Rattle.page_list.proofs.Rows.{length_along}
use Rattle.page_list.proofs.Search.{HasNarrowed-up, HasNarrowed-down, HasNarrowed-to_blocks}
use Rattle.page_list.proofs.row.Row.block_to_search_at.Goals as goal

pub loop-high-init : goal.loop-high-init
loop-high-init g c = record {
  order = c.first_greater-high.ensures.order;
  in_range = c.first_greater-high.ensures.in_range;
  narrowed =
      HasNarrowed-to_blocks g.F.Fn c.args.before.now c.args.mark g.B.Block.entries c.args.self.now c.last_lesser-low.result c.first_greater-high.result c.first_greater-high.ensures.order c.first_greater-high.ensures.in_range c.last_lesser-low.ensures.lesser c.first_greater-high.ensures.greater;
}

pub loop-high-preserved-then-starts_before : goal.loop-high-preserved-then-starts_before
loop-high-preserved-then-starts_before g c = record {
  order = omega arith;
  in_range = c.loop-high.invariant.in_range;
  narrowed =
      HasNarrowed-up _ _ _ _ _ _ c.loop-high.invariant.narrowed (length_along g.B.Block.entries c.args.self.now _ _ (omega arith)) (omega arith) c.starts_before.ensures.some
      (λ q test d. c.starts_before.ensures.told q test d ∙ c.if-starts_before.true);
}

pub loop-high-preserved : goal.loop-high-preserved
loop-high-preserved g c = record {
  order = omega arith;
  in_range = omega arith;
  narrowed =
      HasNarrowed-down _ _ _ _ _ c.loop-high.invariant.narrowed (length_along g.B.Block.entries c.args.self.now _ _ (omega arith)) c.starts_before.ensures.some
      (λ q test d. c.starts_before.ensures.told q test d ∙ c.if-starts_before.false);
}
