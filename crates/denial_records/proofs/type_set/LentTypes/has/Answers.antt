use Rattle.std.proofs.Common.{◌∙◌, ap, subst}
use Rattle.std.proofs.lemmas.Bool.{false≢true}
use Rattle.denial_records.specs.TypeSet.{has_bit, IsTypeSet}
use Rattle.denial_records.proofs.TypeSetLemmas.{look_here, look_past, look_end}
use Rattle.denial_records.proofs.type_set.LentTypes.has.Goals as goal

pub returns-then-block-window-clause-answer : goal.returns-then-block-window-clause-answer
returns-then-block-window-clause-answer c =
    look_here c.args.self.now c.args.rtype c.loop-block.rest.now c.in-Some.block.window c.in-Some.block.bitmap.now c.in-Some.after.now c.has_bit.result
    c.loop-block.invariant c.in-Some.ensures c.if-block-window.true (c.has_bit.ensures ∙ ap (has_bit c.in-Some.block.bitmap.now) c.from-bit.ensures)

pub loop-block-preserved : goal.loop-block-preserved
loop-block-preserved c =
    look_past c.args.self.now c.args.rtype c.loop-block.rest.now c.in-Some.block.window c.in-Some.block.bitmap.now c.in-Some.after.now
    c.loop-block.invariant c.in-Some.ensures c.if-block-window.false

pub returns-clause-answer : goal.returns-clause-answer
returns-clause-answer c = (
  λ is. absurd (false≢true is),
  λ h. absurd (look_end c.args.self.now c.args.rtype c.loop-block.rest.now c.loop-block.invariant c.in_default.ensures h),
)

pub returns-then-block-window-clause-set : goal.returns-then-block-window-clause-set
returns-then-block-window-clause-set c = subst IsTypeSet c.self.view_is c.self.invariant.set

pub returns-clause-set : goal.returns-clause-set
returns-clause-set c = subst IsTypeSet c.self.view_is c.self.invariant.set
