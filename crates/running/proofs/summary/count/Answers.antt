use Rattle.running.proofs.CountLemmas.{all_counted, other_passed, this_counted}
use Rattle.running.proofs.summary.count.Goals as goal

pub loop-kind-preserved-then-counts_as : goal.loop-kind-preserved-then-counts_as
loop-kind-preserved-then-counts_as c =
    this_counted c.args.counted _ _ _ c.in-Some.body.now c.in-Some.kind _ _ c.loop-kind.invariant c.in-Some.ensures.shorter c.in-Some.ensures.every c.counts_as.ensures c.if-counts_as.true

pub loop-kind-preserved : goal.loop-kind-preserved
loop-kind-preserved c =
    other_passed c.args.counted _ _ _ c.in-Some.body.now c.in-Some.kind _ _ c.loop-kind.invariant c.in-Some.ensures.shorter c.in-Some.ensures.every c.counts_as.ensures c.if-counts_as.false

pub returns : goal.returns
returns c = all_counted c.args.counted _ _ _ c.loop-kind.invariant c.in_default.ensures.every
