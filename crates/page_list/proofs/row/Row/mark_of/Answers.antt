use Rattle.page_list.specs.Marks.{mark_of}
use Rattle.page_list.proofs.Slots.{shelf_first}
use Rattle.page_list.proofs.row.Row.mark_of.Goals as goal

pub returns-clause-some : goal.returns-clause-some
returns-clause-some g c =
    (shelf_first mark_of g.B.Block.entries c.self.inside.slots.items c.args.self.now c.args.p c.mark.result c.index.result.now c.self.view_is c.self.invariant c.requires c.index.ensures c.mark.ensures).0

pub returns-clause-first : goal.returns-clause-first
returns-clause-first g c =
    (shelf_first mark_of g.B.Block.entries c.self.inside.slots.items c.args.self.now c.args.p c.mark.result c.index.result.now c.self.view_is c.self.invariant c.requires c.index.ensures c.mark.ensures).1
