use Rattle.page_list.specs.Marks.{mark_of}
use Rattle.std.proofs.Common.{◌∙◌, refl, length, take}
use Rattle.std.specs.List.{flat_map}
use Rattle.page_list.proofs.Rows.{first_at}
use Rattle.page_list.proofs.Search.{answered}
use Rattle.page_list.proofs.Marks.{told_by_mark}
use Rattle.page_list.proofs.Slots.{shelf_first}
use Rattle.page_list.proofs.row.Row.starts_before.Goals as goal

pub returns-then-own-mark-clause-some : goal.returns-then-own-mark-clause-some
returns-then-own-mark-clause-some g c =
    (shelf_first mark_of g.B.Block.entries c.self.inside.slots.items c.args.self.now c.args.p c.mark-own.result c.index.result.now c.self.view_is c.self.invariant c.requires.in_range c.index.ensures c.mark-own.ensures).0

pub returns-then-own-mark-clause-told : goal.returns-then-own-mark-clause-told
returns-then-own-mark-clause-told g c = λ q test d.
    let at = first_at g.B.Block.entries c.args.self.now c.args.p c.block.result.now _ c.requires.in_range c.block.ensures c.first.ensures.some c.first.ensures.first in
    answered g.F.Fn c.args.before.now (flat_map g.B.Block.entries c.args.self.now) (length (flat_map g.B.Block.entries (take c.args.p c.args.self.now))) c.first.result.now c.deref.result _ _ at.0 at.1 (c.deref.ensures ∙ c.share.ensures) c.before-then-own-mark.ensures refl q test.answers d

pub returns-else-own-mark-clause-some : goal.returns-else-own-mark-clause-some
returns-else-own-mark-clause-some g c =
    (shelf_first mark_of g.B.Block.entries c.self.inside.slots.items c.args.self.now c.args.p c.mark-own.result c.index.result.now c.self.view_is c.self.invariant c.requires.in_range c.index.ensures c.mark-own.ensures).0

pub returns-else-own-mark-clause-told : goal.returns-else-own-mark-clause-told
returns-else-own-mark-clause-told g c = λ q test d.
    let at = shelf_first mark_of g.B.Block.entries c.self.inside.slots.items c.args.self.now c.args.p c.mark-own.result c.index.result.now c.self.view_is c.self.invariant c.requires.in_range c.index.ensures c.mark-own.ensures in
    told_by_mark g.F.Fn c.args.before.now c.args.mark c.mark-own.result (flat_map g.B.Block.entries c.args.self.now) q (length (flat_map g.B.Block.entries (take c.args.p c.args.self.now))) d test at.0 (at.1 d) c.if-own-mark.false
