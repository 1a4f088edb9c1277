use Rattle.std.proofs.Common.{arith, subst}
use Rattle.denial_records.specs.TypeSet.{IsTypeSet}
use Rattle.denial_records.proofs.NextLemmas.{HaveLeft, next_first, next_past, next_here, next_none}
use Rattle.denial_records.proofs.type_set.LentTypes.next_from.Goals as goal

pub loop-block-init : goal.loop-block-init
loop-block-init c = subst (λ types. HaveLeft types c.args.rtype c.self.inside.octets.now) c.self.view_is (next_first c.self.inside.octets.now c.args.rtype c.self.invariant)

pub loop-block-preserved : goal.loop-block-preserved
loop-block-preserved c =
    next_past c.args.self.now c.args.rtype c.loop-block.rest.now c.in-Some.block.window c.in-Some.block.bitmap.now c.in-Some.after.now c.from-from.result
    c.loop-block.invariant c.in-Some.ensures (omega (arith, c.from-from.ensures, c.saturating_sub.ensures, c.from-begin.ensures)) c.in_default-first_bit.ensures.none

pub returns-in-Some-first_bit-clause-next : goal.returns-in-Some-first_bit-clause-next
returns-in-Some-first_bit-clause-next c =
    let found = c.in-Some-first_bit.ensures.some in
    next_here c.args.self.now c.args.rtype c.loop-block.rest.now c.in-Some.block.window c.in-Some.block.bitmap.now c.in-Some.after.now c.from-from.result c.in-Some-first_bit.bit _
    c.loop-block.invariant c.in-Some.ensures (omega (arith, c.from-from.ensures, c.saturating_sub.ensures, c.from-begin.ensures))
    (omega (arith, c.from-begin.ensures)) found.0 found.1 found.2 found.3

pub returns-clause-none : goal.returns-clause-none
returns-clause-none c = next_none c.args.self.now c.args.rtype c.loop-block.rest.now c.loop-block.invariant c.in_default.ensures

pub returns-in-Some-first_bit-clause-set : goal.returns-in-Some-first_bit-clause-set
returns-in-Some-first_bit-clause-set c = subst IsTypeSet c.self.view_is c.self.invariant.set

pub returns-clause-set : goal.returns-clause-set
returns-clause-set c = subst IsTypeSet c.self.view_is c.self.invariant.set
