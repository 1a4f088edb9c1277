use Rattle.forward_report.specs.Status.{failure_text}
use Rattle.forward_report.specs.declared.call.Call.TheVariants as calls
use Rattle.forward_report.specs.declared.call.TheConstants.Call as call
use Rattle.forward_report.proofs.PutLemmas.{put_all, put_more}
use Rattle.forward_report.proofs.status.put_failures.Goals as goal

pub returns : goal.returns
returns c = put_all (failure_text c.args.worker c.args.faults.now) call.ALL _ _ _ c.loop-call-test.false c.loop-call.invariant

pub loop-call-preserved : goal.loop-call-preserved
loop-call-preserved c =
    put_more (failure_text c.args.worker c.args.faults.now) call.ALL _ calls.Wait _ _ _ c.loop-call-test.true c.loop-call.invariant c.in_ok-put_failure.ensures
