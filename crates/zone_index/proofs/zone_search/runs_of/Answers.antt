use Rattle.std.proofs.Common.{arith}
use Rattle.zone_index.proofs.LiveLemmas.{runs_more, runs_all}
use Rattle.zone_index.proofs.zone_search.runs_of.Goals as goal

pub loop-at-preserved : goal.loop-at-preserved
loop-at-preserved c = runs_more c.args.zone.now c.args.live.now c.loop-at.at c.loop-at.runs.items c.push.new.self.items c.run_of.result c.get.result.now c.loop-at.invariant c.get.ensures c.run_of.ensures c.in_ok-push.ensures.items

pub returns : goal.returns
returns c =
    runs_all c.args.zone.now c.args.live.now c.loop-at.at c.loop-at.runs.items c.loop-at.invariant
    (omega (arith, c.loop-at.auto.at-end, c.len-at-end.ensures))
    (omega (arith, c.loop-at-test.false, c.len-at-end.ensures))
