use Rattle.forward_report.specs.Status.{failures_text}
use Rattle.forward_report.proofs.PutLemmas.{put_all_below, put_more_by_place}
use Rattle.forward_report.proofs.status.put_faults.Goals as goal

pub loop-worker-preserved : goal.loop-worker-preserved
loop-worker-preserved c =
    put_more_by_place (λ worker report. failures_text worker report.faults) c.args.workers.now _ _ _ _ _ c.loop-worker-test.true c.index-workers-worker.is c.loop-worker.invariant c.in_ok-put_failures.ensures

pub returns : goal.returns
returns c =
    put_all_below (λ worker report. failures_text worker report.faults) c.args.workers.now _ _ _ _ _ c.loop-worker-test.false c.in_ok-put_head.ensures c.loop-worker.invariant
