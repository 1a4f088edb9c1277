use Rattle.std.proofs.Common.{arith}
use Rattle.zone_meaning.proofs.GroupLemmas.{nearest_more}
use Rattle.zone_meaning.proofs.group.nearest.Goals as goal

pub loop-group-preserved : goal.loop-group-preserved
loop-group-preserved c =
    nearest_more c.args.groups.now c.args.apex.now c.args.name.now c.loop-group.group-index c.group-item.result c.loop-group.nearest c.common.result c.longer-nearest.result (omega arith) c.group-item.is c.common.ensures
    c.longer-nearest.ensures.first
    c.longer-nearest.ensures.second
    c.loop-group.invariant

pub returns-clause-longest : goal.returns-clause-longest
returns-clause-longest c = λ k d short. c.loop-group.invariant.longest k d (omega arith) (omega arith)
