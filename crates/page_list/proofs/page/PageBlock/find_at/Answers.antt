use Rattle.std.proofs.Common.{◌∙◌, arith}
use Rattle.page_list.proofs.Search.{HasNarrowed-to_run, HasNarrowed-up, HasNarrowed-down, HasNarrowed-done}
use Rattle.page_list.proofs.page.PageBlock.find_at.Goals as goal

pub loop-low-preserved-then-is_before : goal.loop-low-preserved-then-is_before
loop-low-preserved-then-is_before g c =
    HasNarrowed-up _ _ _ _ _ _ c.loop-low.invariant (omega arith) (omega arith) (omega (arith, c.loop-low.invariant.in_range)) (λ q test d. c.is_before.ensures q test d ∙ c.if-is_before.true)

pub loop-low-preserved : goal.loop-low-preserved
loop-low-preserved g c =
    HasNarrowed-down _ _ _ _ _ c.loop-low.invariant (omega arith) (omega (arith, c.loop-low.invariant.in_range)) (λ q test d. c.is_before.ensures q test d ∙ c.if-is_before.false)

pub returns-clause-exact : goal.returns-clause-exact
returns-clause-exact g c = λ p test parts.
    HasNarrowed-done _ _ _ _ c.loop-low.invariant c.loop-low-test.false p (record { answers = test; parts = parts }) parts.first

pub loop-low-init : goal.loop-low-init
loop-low-init g c =
    HasNarrowed-to_run g.F.Fn c.args.before.now c.args.mark c.args.self.now c.start_of_run-low.result c.end_of_run-high.result c.start_of_run-low.ensures c.end_of_run-high.ensures.order c.end_of_run-high.ensures.in_range c.end_of_run-high.ensures.greater
