use Rattle.std.proofs.Common.{sym, subst}
use Rattle.record_store.specs.Holding.{AreGoings}
use Rattle.record_store.proofs.GoingLemmas.{no_goings}
use Rattle.record_store.proofs.goings.Goings.empty.Goals as goal

pub invariant_of-result : goal.invariant_of-result
invariant_of-result c = subst AreGoings (sym c.empty.ensures) no_goings
