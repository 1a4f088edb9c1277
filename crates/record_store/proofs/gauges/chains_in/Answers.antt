use Rattle.std.proofs.Common.{arith}
use Rattle.record_store.proofs.GaugeLemmas.{lent_counted}
use Rattle.record_store.proofs.gauges.chains_in.Goals as goal

pub overflow_add-result : goal.overflow_add-result
overflow_add-result c =
    let counted = lent_counted c.args.zone.now c.chains.result _ _ c.chains.ensures.first c.chains.ensures.all c.count_of.ensures c.count_of-2.ensures in
    omega (arith, counted, c.chains.ensures.all)

pub returns : goal.returns
returns c = lent_counted c.args.zone.now c.chains.result _ _ c.chains.ensures.first c.chains.ensures.all c.count_of.ensures c.count_of-2.ensures
