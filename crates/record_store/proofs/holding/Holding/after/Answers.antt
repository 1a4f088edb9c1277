use Rattle.std.proofs.lemmas.Result.{IfOk-weaker}
use Rattle.held_laws.specs.KeyOrder.{in_key_order, kept_after}
use Rattle.record_store.proofs.PhaseLemmas.{after_is}
use Rattle.record_store.proofs.holding.Holding.after.Goals as goal
use Rattle.std.proofs.Common.{◌≡◌}

pub returns : goal.returns
returns c =
    IfOk-weaker c.within_limit.result _ (λ made. in_key_order made ≡ kept_after (in_key_order c.args.self.now) c.args.batch.now)
    (λ made third. after_is c.args.self.now c.args.batch.now c.in_ok-usable.usable c.in_ok-all.all made c.in_ok-usable.ensures.apart c.in_ok-usable.ensures.made c.in_ok-all.ensures third) c.within_limit.ensures
