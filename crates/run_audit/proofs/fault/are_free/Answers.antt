use Rattle.std.proofs.lemmas.Result.{IfOk-weaker}
use Rattle.run_audit.proofs.FaultLemmas.{third_decides}
use Rattle.run_audit.proofs.fault.are_free.Goals as goal

pub returns-clause-free : goal.returns-clause-free
returns-clause-free c =
    IfOk-weaker c.is_free_too-2.result _ _
    (λ free third. third_decides c.args.search.now c.args.verdict.now c.args.name.now c.is_free.new.search c.is_free_too.new.search _ _ free
    c.in_ok-is_free.ensures.same c.in_ok-is_free_too.ensures.same c.if-not-branch.false c.if-not-branch-2.false c.in_ok-is_free.ensures.free c.in_ok-is_free_too.ensures.free third)
    c.is_free_too-2.ensures.free
