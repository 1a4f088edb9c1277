use Rattle.std.proofs.Common.{arith, inl, inr, ◌∙◌}
use Rattle.run_audit.proofs.FaultLemmas.{first_stops, goes_on}
use Rattle.run_audit.proofs.fault.first_false.Goals as goal
use Rattle.run_audit.proofs.fault.first_false.Goals.{then-has_part, else-has_part}

pub returns-then-not-branch-clause-first : goal.returns-then-not-branch-clause-first
returns-then-not-branch-clause-first c =
    first_stops c.args.search.now c.args.verdict.now c.loop-part.search c.loop-part.part c.loop-part.used _
    c.loop-part.invariant.same c.loop-part.invariant.passed (omega arith) c.in_ok-is_part_true.ensures.is c.if-not-branch.true

pub loop-part-preserved : goal.loop-part-preserved
loop-part-preserved c = record {
  same = c.in_ok-is_part_true.ensures.same ∙ c.loop-part.invariant.same;
  passed = goes_on c.args.search.now c.args.verdict.now c.loop-part.search c.loop-part.part c.loop-part.used _
      c.loop-part.invariant.same c.loop-part.invariant.passed (omega arith) c.in_ok-is_part_true.ensures.is c.has_part.result c.if-has_part.used
      c.if-not-branch.false c.has_part.ensures
      (elim c.if-has_part.branch [
        | then-has_part w ↦ inl (w.if-has_part.true, w.used-is)
        | else-has_part w ↦ inr (w.if-has_part.false, w.used-is)
      ]);
}
