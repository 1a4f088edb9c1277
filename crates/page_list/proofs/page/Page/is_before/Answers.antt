use Rattle.std.proofs.Common.{refl, ◌∙◌, ap}
use Rattle.page_list.specs.Marks.{mark_of}
use Rattle.page_list.proofs.Marks.{entry_among, entry_read_at, told_by_mark}
use Rattle.page_list.proofs.Search.{answered}
use Rattle.page_list.proofs.page.Page.is_before.Goals as goal

pub returns-then-own-mark : goal.returns-then-own-mark
returns-then-own-mark g c = λ q test d.
    answered g.F.Fn c.args.before.now c.args.self.now c.args.i c.index-as_slice-i.result c.deref.result _ _ c.requires.in_range
    (entry_among c.as_slice.result.now c.args.self.now c.args.i c.index-as_slice-i.result c.index-as_slice-i.is (c.as_slice.ensures.values ∙ c.self.view_is))
    (c.deref.ensures ∙ c.share.ensures) c.before-then-own-mark.ensures refl q test.answers d

pub returns-else-own-mark : goal.returns-else-own-mark
returns-else-own-mark g c = λ q test d.
    told_by_mark g.F.Fn c.args.before.now c.args.mark c.mark-own.result c.args.self.now q c.args.i d test c.requires.in_range
    (c.mark-own.ensures ∙ ap mark_of (entry_read_at c.args.self.now c.args.i c.index-as_slice-i.result d c.requires.in_range (entry_among c.as_slice.result.now c.args.self.now c.args.i c.index-as_slice-i.result c.index-as_slice-i.is (c.as_slice.ensures.values ∙ c.self.view_is))))
    c.if-own-mark.false
