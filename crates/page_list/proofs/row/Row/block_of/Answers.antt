use Rattle.std.proofs.Common.{arith}
use Rattle.page_list.specs.Marks.{mark_of}
use Rattle.page_list.proofs.Rows.{IsSeam-in_block}
use Rattle.page_list.proofs.Slots.{shelf_end}
use Rattle.page_list.proofs.row.Row.block_of.Goals as goal

pub returns-clause-first : goal.returns-clause-first
returns-clause-first g c =
    IsSeam-in_block g.B.Block.entries c.args.self.now c.args.from c.place-p.result.0 c.start-start.result c.end.result c.place-p.ensures.in_range c.start-start.ensures
    (shelf_end mark_of g.B.Block.entries c.self.inside.slots.items c.args.self.now c.place-p.result.0 c.end.result c.index.result.now c.self.view_is c.self.invariant c.place-p.ensures.in_range c.index.ensures c.end.ensures)
    (omega (arith, c.start-start.ensures, c.place-p.ensures.before, c.at_most.ensures.low))
    (omega (arith, c.if-to-end.false, c.requires.order))

pub returns-clause-last : goal.returns-clause-last
returns-clause-last g c =
    IsSeam-in_block g.B.Block.entries c.args.self.now c.args.to c.place-p.result.0 c.start-start.result c.end.result c.place-p.ensures.in_range c.start-start.ensures
    (shelf_end mark_of g.B.Block.entries c.self.inside.slots.items c.args.self.now c.place-p.result.0 c.end.result c.index.result.now c.self.view_is c.self.invariant c.place-p.ensures.in_range c.index.ensures c.end.ensures)
    (omega (arith, c.start-start.ensures, c.place-p.ensures.before, c.at_most.ensures.low, c.requires.order))
    (omega (arith, c.if-to-end.false))
