use Rattle.std.proofs.Common.{◌+◌, ◌-◌, ◌/◌, ◌∙◌, arith}
use Rattle.page_list.proofs.Search.{answered, HasNarrowed-up, HasNarrowed-down, HasNarrowed-done}
use Rattle.page_list.proofs.page.PageBlock.find.Goals as goal

pub loop-low-preserved-then-before : goal.loop-low-preserved-then-before
loop-low-preserved-then-before g c =
    let entries = c.as_slice-entries.result.now in
    let middle = c.loop-low.low + (c.loop-low.high - c.loop-low.low) / 2 in
    HasNarrowed-up _ _ _ _ _ _ c.loop-low.invariant (omega arith) (omega arith) (omega (arith, c.loop-low.invariant.in_range))
    (answered g.F.Fn c.args.before.now entries middle c.index-entries-middle.result c.deref.result _ _ (omega (arith, c.loop-low.invariant.in_range)) c.index-entries-middle.is (c.deref.ensures ∙ c.share.ensures) c.before-in-loop-low.ensures c.if-before.true)

pub loop-low-preserved : goal.loop-low-preserved
loop-low-preserved g c =
    let entries = c.as_slice-entries.result.now in
    let middle = c.loop-low.low + (c.loop-low.high - c.loop-low.low) / 2 in
    HasNarrowed-down _ _ _ _ _ c.loop-low.invariant (omega arith) (omega (arith, c.loop-low.invariant.in_range))
    (answered g.F.Fn c.args.before.now entries middle c.index-entries-middle.result c.deref.result _ _ (omega (arith, c.loop-low.invariant.in_range)) c.index-entries-middle.is (c.deref.ensures ∙ c.share.ensures) c.before-in-loop-low.ensures c.if-before.false)

pub returns-clause-exact : goal.returns-clause-exact
returns-clause-exact g c =
    rw (← c.self.view_is, ← c.as_slice-entries.ensures.values) (HasNarrowed-done _ _ _ _ c.loop-low.invariant c.loop-low-test.false)
