use Rattle.counters.specs.declared.counter.Counter.TheVariants as counters
use Rattle.counters.specs.declared.counter.TheConstants.Counter as counter
use Rattle.forward_report.specs.Status.{count_text}
use Rattle.forward_report.proofs.PutLemmas.{put_all, put_more}
use Rattle.forward_report.proofs.status.put_counts.Goals as goal

pub returns : goal.returns
returns c = put_all (count_text c.args.family c.args.worker c.args.counts.now) counter.ALL _ _ _ c.loop-counter-test.false c.loop-counter.invariant

pub loop-counter-preserved : goal.loop-counter-preserved
loop-counter-preserved c =
    put_more (count_text c.args.family c.args.worker c.args.counts.now) counter.ALL _ counters.Dropped _ _ _ c.loop-counter-test.true c.loop-counter.invariant c.in_ok-put_count.ensures
