use Rattle.std.proofs.Common.{◌∙◌, arith}
use Rattle.page_list.proofs.Rows.{first_at, length_along}
use Rattle.page_list.proofs.Search.{answered, HasNarrowed-up, HasNarrowed-down}
use Rattle.page_list.proofs.row.Row.block_to_search.Goals as goal

pub loop-high-preserved-then-before : goal.loop-high-preserved-then-before
loop-high-preserved-then-before g c =
    let at = first_at g.B.Block.entries c.args.self.now _ c.block.result.now _ (omega arith) c.block.ensures c.first.ensures.some c.first.ensures.first in
    record {
      order = omega arith;
      in_range = c.loop-high.invariant.in_range;
      narrowed =
          HasNarrowed-up _ _ _ _ _ _ c.loop-high.invariant.narrowed (length_along g.B.Block.entries c.args.self.now _ _ (omega arith)) (omega arith) at.0
          (answered g.F.Fn c.args.before.now _ _ c.first.result.now c.deref.result _ _ at.0 at.1 (c.deref.ensures ∙ c.share.ensures) c.before-in-loop-high.ensures c.if-before.true);
    }

pub loop-high-preserved : goal.loop-high-preserved
loop-high-preserved g c =
    let at = first_at g.B.Block.entries c.args.self.now _ c.block.result.now _ (omega arith) c.block.ensures c.first.ensures.some c.first.ensures.first in
    record {
      order = omega arith;
      in_range = omega arith;
      narrowed =
          HasNarrowed-down _ _ _ _ _ c.loop-high.invariant.narrowed (length_along g.B.Block.entries c.args.self.now _ _ (omega arith)) at.0
          (answered g.F.Fn c.args.before.now _ _ c.first.result.now c.deref.result _ _ at.0 at.1 (c.deref.ensures ∙ c.share.ensures) c.before-in-loop-high.ensures c.if-before.false);
    }
