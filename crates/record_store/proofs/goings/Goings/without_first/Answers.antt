use Rattle.record_store.proofs.GoingLemmas.{goings_dropped}
use Rattle.record_store.proofs.goings.Goings.without_first.Goals as goal

pub invariant_of-result : goal.invariant_of-result
invariant_of-result c = goings_dropped c.self.inside.list c.in_ok-into_without_first.field-0 c.in_ok-into_without_first.ensures c.self.invariant
