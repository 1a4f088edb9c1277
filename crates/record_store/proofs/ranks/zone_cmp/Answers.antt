use Rattle.std.proofs.Common.{sym}
use Rattle.dname.specs.Order.{canonical_same}
use Rattle.record_store.proofs.ranks.zone_cmp.Goals as goal

pub returns-then-eq : goal.returns-then-eq
returns-then-eq c = sym (canonical_same c.args.zone.now c.args.other.now (c.eq.ensures.same.0 c.if-eq.true))
