use Rattle.std.proofs.Common.{sym, subst}
use Rattle.record_store.specs.Holding.{AreGoings}
use Rattle.record_store.proofs.goings.Goings.try_clone.Goals as goal

pub invariant_of-result : goal.invariant_of-result
invariant_of-result c = subst AreGoings (sym c.in_ok-try_clone.ensures.same) c.self.invariant
